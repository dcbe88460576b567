-- A run that was built is one that has not yet made a cycle.
use Rattle.std.proofs.Common.{◌≡◌, ◌≢◌, ℕ, suc, ◌+◌, ◌-◌, ◌<◌, ◌≤◌, ◌⊎◌, inl, inr, ◌==◌, min, nat_lt, Bool, true, false, cond, List, ◌∷◌, ◌++◌, length, get_or, map, filter, refl, sym, ◌∙◌, ap, subst, zero-add, arith}
use Rattle.std.specs.Prelude.{Option, Some, IfSome, slice_get, ⊤}
use Rattle.std.proofs.lemmas.Bool.{eq-eqb, ltb-true, ltb-false, false≢true}
use Rattle.std.proofs.lemmas.List.{length-map, get_or-map}
use Rattle.std.proofs.lemmas.List.Elements.{filter-append}
use Rattle.std.proofs.lemmas.Option.{slice_get_within, get_or_from_slice_get, MatchOption-at_some}
use Rattle.lid_design.specs.Network.{Table}
use Rattle.lid_base.specs.Each.{from_each}
use Rattle.lid_graph.specs.Firings.{firings}
use Rattle.lid_system.specs.declared.System.{System}
use Rattle.lid_system.specs.Systems.{Point, IsWellFormed}
use Rattle.lid_system.specs.Streams.{token_at}
use Rattle.lid_shell_nodes.specs.Nodes.{channels_to, channels_from, tokens_from}
use Rattle.lid_shell_nodes.specs.Wiring.{IsShellOf, ports_from}
use Rattle.lid_stations.specs.declared.placement.Placement.{Placement}
use Rattle.lid_stations.specs.Placements.{Links, links_of, station_count, Fits}
use Rattle.lid_stations.specs.Stations.{actor_count, filler, drainer, start_count}
use Rattle.lid_shell_laws.specs.Runs.{drained_by, filled_by, starts_with, token_of}
use Rattle.lid_clock.specs.declared.part.Role.{Role}
use Rattle.lid_clock.specs.declared.part.Role.TheVariants.{Source, Shell, Mover, Sink}
use Rattle.lid_clock.specs.declared.actor.ClockActor.{ClockActor}
use Rattle.lid_clock.specs.declared.station.ClockStation.{ClockStation}
use Rattle.lid_clock.specs.declared.stream.ClockStream.{ClockStream}
use Rattle.lid_clock.specs.Rings.{token_in}
use Rattle.lid_clock.specs.Rules.{RunsGoByRules}
use Rattle.lid_clock.specs.Parts.{IsOfSize}
use Rattle.lid_clock.specs.Lives.{Life, IsLife, StartsSo, fired_after, sink}
use Rattle.lid_clock.specs.States.{outs_of, token_of_life, put_after, taken_after, actors_of, stations_of, IsStation, IsRole, IsActor, AreActors, AreStations, IsLatest}
use Rattle.lid_clock.specs.Ran.{Ran}
use Rattle.lid_clock.specs.Starts.{IsNewRole, IsNew, AreNew, filled_of, IsActorJoined, AreJoined, IsLaid, HasLaid, ShowsFirstTokens, IsSized, AreReadied, CanGain, HasGained}
use Rattle.lid_clock.proofs.Built.{HasBegun, IsBuilt}
use Rattle.lid_base.proofs.Places.{item_at, get_past}
use Rattle.lid_base.proofs.Each.{each_append}

-- a number that passes stands behind those before it that pass
stands_behind : (f : ℕ → Bool) (n k : ℕ) → f n ≡ true → slice_get (filter f (from_each (λ j. j) 0 (n + suc k))) (length (filter f (from_each (λ j. j) 0 n))) ≡ Some n
stands_behind f n k passes =
    let before : List ℕ = filter f (from_each (λ j. j) 0 n) in
    let later : List ℕ = filter f (from_each (λ j. j) (n + 1) k) in
    let whole : filter f (from_each (λ j. j) 0 (n + suc k)) ≡ before ++ n ∷ later =
    ap (filter f) (each_append (λ j. j) 0 n (suc k))
    ∙ filter-append f (from_each (λ j. j) 0 n) (from_each (λ j. j) (0 + n) (suc k))
    ∙ ap (λ (m : ℕ). before ++ filter f (from_each (λ j. j) m (suc k))) (zero-add n)
    ∙ ap (λ (b : Bool). before ++ cond b (n ∷ later) later) passes in
    ap (λ (xs : List ℕ). slice_get xs (length before)) whole ∙ get_past before later n

-- the slot of a station is where it stands among those of its filler
pub slot_at : (l : Links) (p : Placement) (station : ℕ) → station < station_count p.relays → slice_get (filled_by l p (filler l p station)) (length (filled_of l p station (filler l p station))) ≡ Some station
slot_at l p station there =
    let all : station + suc (station_count p.relays - (station + 1)) ≡ station_count p.relays = omega arith in
    let f : ℕ → Bool = λ s. filler l p s == filler l p station in
    subst (λ (n : ℕ). slice_get (filter f (from_each (λ j. j) 0 n)) (length (filter f (from_each (λ j. j) 0 station))) ≡ Some station) all
    (stands_behind f station (station_count p.relays - (station + 1)) (eq-eqb (filler l p station) (filler l p station) refl))

module _ (r : RunsGoByRules) (s : System) (p : Placement) (well : IsWellFormed s) (fits : Fits s p) where
  no_table : Table Point
  no_table t point = false

  -- a node drains a station for each channel that leads to it, and fills one for each that comes from it
  ins_many : (v : ℕ) → v < length s.nodes → length (drained_by (links_of s) p v) ≡ length (channels_to s.channels v)
  ins_many v node =
      sym (length-map (drained_by (links_of s) p v) (λ station. token_of s p no_table station 0))
      ∙ ap length (r.drained s p no_table v 0 well fits node)
      ∙ length-map (channels_to s.channels v) (λ c. token_at s no_table c 0)

  outs_many : (v : ℕ) → v < length s.nodes → length (filled_by (links_of s) p v) ≡ length (ports_from s v)
  outs_many v node =
      sym (length-map (filled_by (links_of s) p v) (λ station. token_of s p no_table station 0))
      ∙ ap length (r.filled s p no_table v 0 well fits node)
      ∙ length-map (channels_from s.channels v) (λ c. token_at s no_table c 0)
      ∙ sym (length-map (channels_from s.channels v) (λ c. c.ports))

  sized : (first : Option (List Bool)) (v ins outs : ℕ) (part : Role) → v < actor_count (links_of s) p → ins ≡ length (drained_by (links_of s) p v) → outs ≡ length (filled_by (links_of s) p v) → IsNewRole s first v part → IsOfSize part ins outs
  sized first v ins outs (Source node row) there drains fills new =
      let source : v ≡ 0 = new.0 in
      let least : 2 ≤ length s.nodes = well.least in
      (new.2, fills ∙ outs_many v (omega arith) ∙ ap (λ (u : ℕ). length (ports_from s u)) source ∙ sym (ap length new.1.from))
  sized first v ins outs (Shell node) there drains fills new =
      let inner : v + 1 < length s.nodes = new.1 in
      let shell : IsShellOf s no_table v 0 node = new.2 no_table in
      (drains ∙ ins_many v (omega arith) ∙ sym shell.many, fills ∙ outs_many v (omega arith) ∙ sym (ap length shell.from))
  sized first v ins outs Mover there drains fills new =
      let moves = r.moves s p v well fits new there in
      (drains ∙ ap length moves.1.drained, fills ∙ ap length moves.1.filled)
  sized first v ins outs (Sink node row) there drains fills new =
      let last : v + 1 ≡ length s.nodes = new.0.last in
      (new.1, drains ∙ ins_many v (omega arith) ∙ sym new.0.many)

  -- each actor is of the size of its stations, where all were joined
  pub all_sized : (rows : ℕ) (first : Option (List Bool)) (actors : List ClockActor) → AreJoined (links_of s) p (station_count p.relays) actors → AreNew s rows first actors
      → (v : ℕ) (a : ClockActor) → slice_get actors v ≡ Some a → IsSized a
  all_sized rows first actors joined new v a at =
      let own : IsActorJoined (links_of s) p (station_count p.relays) v a = joined.each v a at in
      let within : v < length actors = slice_get_within actors v a at in
      let many : length actors ≡ actor_count (links_of s) p = joined.many in
      sized first v (length a.ins.items) (length a.outs.items) a.part (omega arith) (ap length own.drains) (ap length own.fills) (new v a at).is

  -- each station can gain the token of its filler
  pub can_gain : (some : Bool) (old new : List ClockActor) (stations : List ClockStation) → HasLaid (links_of s) p (station_count p.relays) old stations → AreReadied some old new
      → (i : ℕ) (x : ClockStation) → slice_get stations i ≡ Some x → CanGain new x
  can_gain some old new stations laid readied i x at =
      let own : IsLaid (links_of s) p i x = laid.each i x at in
      let within : i < length stations = slice_get_within stations i x at in
      let all : length stations ≡ station_count p.relays = laid.many in
      let there : i < station_count p.relays = omega arith in
      let below : filler (links_of s) p i < actor_count (links_of s) p = (r.between s p i well fits there).filled in
      let fills : x.filler ≡ filler (links_of s) p i = own.empty.filled in
      let many : length new ≡ length old = readied.many in
      let as_many : length old ≡ actor_count (links_of s) p = laid.joined.many in
      record {
        there = omega arith;
        slot = λ a here.
            let b = readied.each x.filler a here in
            let joined : IsActorJoined (links_of s) p (station_count p.relays) x.filler b.0 = laid.joined.each x.filler b.0 b.1 in
            let room : length a.tokens.items ≡ length a.outs.items = b.2.places.tokens in
            let same : length a.outs.items ≡ length (filled_by (links_of s) p (filler (links_of s) p i)) = ap length (b.2.same.outs ∙ joined.fills ∙ ap (filled_by (links_of s) p) fills) in
            let slot : x.slot ≡ length (filled_of (links_of s) p i (filler (links_of s) p i)) = own.slot in
            let less = slice_get_within (filled_by (links_of s) p (filler (links_of s) p i)) (length (filled_of (links_of s) p i (filler (links_of s) p i))) i (slot_at (links_of s) p i there) in
            omega arith;
        put_is = own.empty.put_is;
        taken_is = own.empty.taken_is;
      }

-- a run that was built of what a life starts with is built of that life
pub built_of_life : (l : Life) (s : System) (p : Placement) (rows : ℕ) (first : Option (List Bool)) (actors : List ClockActor) (stations : List ClockStation) → StartsSo l s p rows first → IsBuilt s p rows first actors stations
    → IsBuilt l.setup.system l.setup.placement (length l.setup.input) (slice_get l.setup.input 0) actors stations
built_of_life l s p rows first actors stations so is =
    subst (λ (x : System). IsBuilt x l.setup.placement (length l.setup.input) (slice_get l.setup.input 0) actors stations) (sym so.of)
    (subst (λ (x : Placement). IsBuilt s x (length l.setup.input) (slice_get l.setup.input 0) actors stations) (sym so.stations)
    (subst (λ (n : ℕ). IsBuilt s p n (slice_get l.setup.input 0) actors stations) (sym so.many)
    (subst (λ (x : Option (List Bool)). IsBuilt s p rows x actors stations) (sym so.begins) is)))

module _ (r : RunsGoByRules) (l : Life) (life : IsLife l) where
  -- before the first cycle nobody has fired
  none_fired : (v : ℕ) → fired_after l 0 v ≡ 0
  unfolding firings
  none_fired v = refl

  -- the row that the source holds is the first one
  first_held : (row : List Bool) → IfSome (slice_get l.setup.input 0) (λ given. row ≡ given) → 0 < length l.setup.input → slice_get l.setup.input 0 ≡ Some row
  first_held row held some =
      let given = item_at l.setup.input 0 some in
      let same : row ≡ given.0 = MatchOption-at_some ⊤ (λ (x : List Bool). row ≡ x) given.0 given.1 held in
      given.1 ∙ ap (λ (x : List Bool). Some x) (sym same)

  new_part : (v : ℕ) (part : Role) → IsNewRole l.setup.system (slice_get l.setup.input 0) v part → IsRole l (min 1 (length l.setup.input)) v 0 part
  new_part v (Source node row) new = (
    new.0,
    new.1,
    λ some.
        let none : min 1 (length l.setup.input) - 1 ≡ 0 = omega arith in
        record {
          next = omega arith;
          near = omega arith;
          is = ap (slice_get l.setup.input) none ∙ first_held row.items new.3 some;
        },
  )
  new_part v (Shell node) new = (new.0, new.1, new.2 l.setup.table)
  new_part v Mover new = new
  new_part v (Sink node row) new = new.0

  -- what a node but the sink shows are the tokens of the first row
  shown : (v : ℕ) (part : Role) (tokens : List ℕ) → IsNewRole l.setup.system (slice_get l.setup.input 0) v part → ShowsFirstTokens part tokens → v < length l.setup.system.nodes → v + 1 ≢ length l.setup.system.nodes → 0 < length l.setup.input → tokens ≡ tokens_from l.setup.system l.setup.table v 0
  shown v (Source node row) tokens new shows node_is not_sink some =
      shows l.setup.system l.setup.input l.setup.table 0 life.system new.1 life.table (first_held row.items new.3 some) ∙ ap (λ (u : ℕ). tokens_from l.setup.system l.setup.table u 0) (sym new.0)
  shown v (Shell node) tokens new shows node_is not_sink some = shows l.setup.system l.setup.input l.setup.table v 0 life.system life.table some (new.2 l.setup.table)
  shown v Mover tokens new shows node_is not_sink some = let past : length l.setup.system.nodes ≤ v = new in absurd (omega arith)
  shown v (Sink node row) tokens new shows node_is not_sink some = absurd (not_sink new.0.last)

  module _ (actors : List ClockActor) (stations : List ClockStation) (is : IsBuilt l.setup.system l.setup.placement (length l.setup.input) (slice_get l.setup.input 0) actors stations) where
    new_actor : (v : ℕ) (a : ClockActor) → slice_get actors v ≡ Some a → IsActor l (min 1 (length l.setup.input)) v (fired_after l 0 v) a
    new_actor v a at =
        let own : IsActorJoined (links_of l.setup.system) l.setup.placement (station_count l.setup.placement.relays) v a = is.joined.each v a at in
        let new : IsNew l.setup.system (length l.setup.input) (slice_get l.setup.input 0) v a = is.new v a at in
        let within : v < length actors = slice_get_within actors v a at in
        let many : length actors ≡ actors_of l = is.joined.many in
        record {
          there = omega arith;
          drains = own.drains;
          fills = own.fills;
          capped = new.capped;
          fired_is = new.fired_is ∙ sym (none_fired v);
          places = is.places v a at;
          is = subst (λ (n : ℕ). IsRole l (min 1 (length l.setup.input)) v n a.part) (sym (none_fired v)) (new_part v a.part new.is);
        }

    -- a station that a node fills starts with that node's token of the first row
    first_token : (i slot : ℕ) (a : ClockActor) → i < stations_of l → slice_get actors (filler (links_of l.setup.system) l.setup.placement i) ≡ Some a → filler (links_of l.setup.system) l.setup.placement i < length l.setup.system.nodes → 0 < length l.setup.input
        → slot ≡ length (filled_of (links_of l.setup.system) l.setup.placement i (filler (links_of l.setup.system) l.setup.placement i)) → get_or a.tokens.items slot 0 ≡ token_of_life l i 0
    first_token i slot a there at node some is_slot =
        let v : ℕ = filler (links_of l.setup.system) l.setup.placement i in
        let not_sink = (r.between l.setup.system l.setup.placement i life.system life.fits there).not_sink in
        let tokens : a.tokens.items ≡ tokens_from l.setup.system l.setup.table v 0 = shown v a.part a.tokens.items (is.new v a at).is (is.shows some v a at) node not_sink some in
        let own : a.tokens.items ≡ map (λ station. token_of_life l station 0) (outs_of l v) = tokens ∙ sym (r.filled l.setup.system l.setup.placement l.setup.table v 0 life.system life.fits node) in
        let place : slice_get (outs_of l v) slot ≡ Some i = subst (λ (n : ℕ). slice_get (outs_of l v) n ≡ Some i) (sym is_slot) (slot_at (links_of l.setup.system) l.setup.placement i there) in
        ap (λ (xs : List ℕ). get_or xs slot 0) own
        ∙ get_or-map (λ (station : ℕ). token_of_life l station 0) (outs_of l v) slot 0 0 (slice_get_within (outs_of l v) slot i place)
        ∙ ap (λ (station : ℕ). token_of_life l station 0) (get_or_from_slice_get (outs_of l v) slot i 0 place)

    -- a station that gained its filler's token
    gained : (i : ℕ) (x y : ClockStation) → i < stations_of l → IsLaid (links_of l.setup.system) l.setup.placement i y → nat_lt 0 (length l.setup.input) ≡ true → y.filler < length l.setup.system.nodes → HasGained actors y x
        → IsStation l i (put_after l 0 i) (taken_after l 0 i) x
    gained i x y there laid rows node has =
        let links : Links = links_of l.setup.system in
        let some : 0 < length l.setup.input = ltb-true 0 (length l.setup.input) rows in
        let fills : y.filler ≡ filler links l.setup.placement i = laid.empty.filled in
        let one : start_count l.setup.placement i ≡ 1 = elim (r.starts l.setup.system l.setup.placement i life.system life.fits there) [
          | inl h ↦ h.1
          | inr h ↦ (let past : length l.setup.system.nodes ≤ filler links l.setup.placement i = h.0 in absurd (omega arith))
        ] in
        let none_put : fired_after l 0 (filler links l.setup.placement i) ≡ 0 = none_fired (filler links l.setup.placement i) in
        let none_taken : fired_after l 0 (drainer links l.setup.placement i) ≡ 0 = none_fired (drainer links l.setup.placement i) in
        let below : filler links l.setup.placement i < actors_of l = (r.between l.setup.system l.setup.placement i life.system life.fits there).filled in
        let many : length actors ≡ actors_of l = is.joined.many in
        let filling = item_at actors (filler links l.setup.placement i) (omega arith) in
        let at : slice_get actors y.filler ≡ Some filling.0 = ap (slice_get actors) fills ∙ filling.1 in
        let token : token_in x.places 0 ≡ token_of_life l i 0 = has.token filling.0 at ∙ first_token i y.slot filling.0 there filling.1 (omega arith) some laid.slot in
        let put : x.put ≡ 1 = has.put_is in
        record {
          filled = has.filled ∙ fills;
          slot = subst (λ (v : ℕ). slice_get (outs_of l v) x.slot ≡ Some i) (sym (has.filled ∙ fills))
              (subst (λ (n : ℕ). slice_get (outs_of l (filler links l.setup.placement i)) n ≡ Some i) (sym (has.slot ∙ laid.slot)) (slot_at links l.setup.placement i there));
          drained = has.drained ∙ laid.empty.drained;
          put_is = omega arith;
          taken_is = has.taken_is ∙ sym none_taken;
          size = has.size ∙ laid.empty.size;
          tokens = λ j from to.
              let zero_is : j ≡ 0 = omega arith in
              subst (λ (n : ℕ). token_in x.places n ≡ token_of_life l i n) (sym zero_is) token;
        }

    -- a station that starts with none
    empty : (i : ℕ) (x : ClockStation) → i < stations_of l → IsLaid (links_of l.setup.system) l.setup.placement i x → (nat_lt 0 (length l.setup.input) ≡ false) ⊎ (length l.setup.system.nodes ≤ x.filler)
        → IsStation l i (put_after l 0 i) (taken_after l 0 i) x
    empty i x there laid why =
        let links : Links = links_of l.setup.system in
        let fills : x.filler ≡ filler links l.setup.placement i = laid.empty.filled in
        let none_put : fired_after l 0 (filler links l.setup.placement i) ≡ 0 = none_fired (filler links l.setup.placement i) in
        let none_taken : fired_after l 0 (drainer links l.setup.placement i) ≡ 0 = none_fired (drainer links l.setup.placement i) in
        let put : x.put ≡ 0 = laid.empty.put_is in
        let none : starts_with l.setup.placement (length l.setup.input) i ≡ 0 = elim why [
          | inl no_rows ↦ (let rows : length l.setup.input ≤ 0 = ltb-false 0 (length l.setup.input) no_rows in omega arith)
          | inr past ↦ elim (r.starts l.setup.system l.setup.placement i life.system life.fits there) [
            | inl h ↦ (let node : filler links l.setup.placement i < length l.setup.system.nodes = h.0 in absurd (omega arith))
            | inr h ↦ (let zero_start : start_count l.setup.placement i ≡ 0 = h.1 in omega arith)
          ]
        ] in
        record {
          filled = fills;
          slot = subst (λ (v : ℕ). slice_get (outs_of l v) x.slot ≡ Some i) (sym fills)
              (subst (λ (n : ℕ). slice_get (outs_of l (filler links l.setup.placement i)) n ≡ Some i) (sym laid.slot) (slot_at links l.setup.placement i there));
          drained = laid.empty.drained;
          put_is = omega arith;
          taken_is = laid.empty.taken_is ∙ sym none_taken;
          size = laid.empty.size;
          tokens = λ j from to. absurd (omega arith);
        }

    new_station : (i : ℕ) (x : ClockStation) → slice_get stations i ≡ Some x → IsStation l i (put_after l 0 i) (taken_after l 0 i) x
    new_station i x at =
        let within : i < length stations = slice_get_within stations i x at in
        let many : length stations ≡ stations_of l = is.many in
        let begun : HasBegun l.setup.system l.setup.placement (length l.setup.input) actors i x = is.each i x at in
        elim begun.begins [
          | inl h ↦ gained i x begun.was (omega arith) begun.laid h.0 h.1 h.2
          | inr h ↦ subst (λ (y : ClockStation). IsStation l i (put_after l 0 i) (taken_after l 0 i) y) (sym h.1) (empty i begun.was (omega arith) begun.laid h.0)
        ]

    latest : (a : ClockActor) → slice_get actors (sink l) ≡ Some a → IsLatest l 0 a
    latest a at =
        let rests : a.went ≡ false = (is.new (sink l) a at).rests in
        record {
          fired = λ went. absurd (false≢true (sym rests ∙ went));
          rested = λ _. λ sunk. (let earlier : 0 ≡ sunk.0 + 1 = sunk.1 in omega arith);
        }

    -- so it is a run that has not yet made a cycle
    pub starts : (x : ClockStream) (g : ℕ) → x.actors.items ≡ actors → x.stations.items ≡ stations → x.rows ≡ length l.setup.input → x.given ≡ min 1 (length l.setup.input) → x.sink ≡ sink l → g ≡ min 1 (length l.setup.input) → Ran l 0 g x
    starts x g own_actors own_stations rows given last as_given =
        let run : Ran l 0 (min 1 (length l.setup.input)) x = record {
          rules = life;
          rows_are = rows;
          given_is = given;
          few = omega arith;
          sink_is = last;
          all_actors = subst (λ (xs : List ClockActor). AreActors l 0 (min 1 (length l.setup.input)) xs) (sym own_actors) (record { many = is.joined.many; each = new_actor });
          all_stations = subst (λ (xs : List ClockStation). AreStations l 0 xs) (sym own_stations) (record { many = is.many; each = new_station });
          latest = subst (λ (xs : List ClockActor). (a : ClockActor) → slice_get xs (sink l) ≡ Some a → IsLatest l 0 a) (sym own_actors) latest;
        } in
        subst (λ (n : ℕ). Ran l 0 n x) (sym as_given) run
