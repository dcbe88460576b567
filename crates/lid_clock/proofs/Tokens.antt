-- The tokens that an actor takes and puts in a firing.
use Rattle.std.proofs.Common.{◌≡◌, ℕ, ◌+◌, ◌<◌, ◌≤◌, inl, inr, List, [], ◌∷◌, length, map, get_or, sym, ◌∙◌, ap, arith}
use Rattle.std.specs.Prelude.{Some, slice_get}
use Rattle.std.proofs.lemmas.Option.{slice_get_within, slice_get-get_or, get_or_from_slice_get}
use Rattle.std.proofs.lemmas.List.{get_or-map, length-map}
use Rattle.std.proofs.lemmas.Grind.{same_number_lists}
use Rattle.lid_shell_nodes.specs.Nodes.{tokens_to, tokens_from}
use Rattle.lid_stations.specs.Placements.{links_of}
use Rattle.lid_stations.specs.Stations.{filler, start_count}
use Rattle.lid_clock.specs.declared.actor.ClockActor.{ClockActor}
use Rattle.lid_clock.specs.declared.station.ClockStation.{ClockStation}
use Rattle.lid_clock.specs.Rings.{token_in, AllHold, AreOldest}
use Rattle.lid_clock.specs.Rules.{RunsGoByRules}
use Rattle.lid_clock.specs.Lives.{Life, IsLife, fired_after}
use Rattle.lid_clock.specs.States.{ins_of, outs_of, token_of_life, put_after, taken_after, stations_of, actors_of, IsStation, AreStations, IsActor}
use Rattle.lid_shell_laws.proofs.Ends.{drained_is, filled_is}
use Rattle.lid_clock.proofs.Bars.{read_at}

-- the tokens of a number of the stations that an actor drains, and of those that it fills
abbrev pub tokens_in : Life → ℕ → ℕ → List ℕ
tokens_in l v i = map (λ station. token_of_life l station i) (ins_of l v)

abbrev pub tokens_out : Life → ℕ → ℕ → List ℕ
tokens_out l v i = map (λ station. token_of_life l station i) (outs_of l v)

-- the oldest token of a station is that of the number taken
oldest_is : (l : Life) (station put taken : ℕ) (x : ClockStation) → IsStation l station put taken x → x.taken < x.put → token_in x.places x.taken ≡ token_of_life l station taken
oldest_is l station put taken x is some =
    let there : x.put ≡ put = is.put_is in
    let gone : x.taken ≡ taken = is.taken_is in
    ap (λ (i : ℕ). token_in x.places i) gone ∙ is.tokens taken (omega arith) (omega arith)

took_at : (l : Life) (k g v i : ℕ) (a : ClockActor) (stations : List ClockStation) (taken : List ℕ) → IsActor l g v (fired_after l k v) a → AreStations l k stations → AllHold a.ins.items stations
    → AreOldest a.ins.items stations taken → i < length (ins_of l v) → get_or taken i 0 ≡ get_or (tokens_in l v (fired_after l k v)) i 0
took_at l k g v i a stations taken actor beside hold oldest within =
    let station : ℕ = get_or (ins_of l v) i 0 in
    let at_place : slice_get (ins_of l v) i ≡ Some station = slice_get-get_or (ins_of l v) i 0 within in
    let own = drained_is (links_of l.setup.system) l.setup.placement v i station at_place in
    let read = read_at l k i station a.ins.items (ins_of l v) stations actor.drains at_place beside own.0 in
    oldest.each i read.within read.station read.at
    ∙ oldest_is l station (put_after l k station) (taken_after l k station) read.station read.is (hold i read.within read.station read.at)
    ∙ ap (λ (n : ℕ). token_of_life l station (fired_after l k n)) own.1
    ∙ sym (get_or-map (λ (s : ℕ). token_of_life l s (fired_after l k v)) (ins_of l v) i 0 0 within)

-- an actor takes the tokens of the number that it has fired
pub took : (l : Life) (k g v : ℕ) (a : ClockActor) (stations : List ClockStation) (taken : List ℕ) → IsActor l g v (fired_after l k v) a → AreStations l k stations → AllHold a.ins.items stations
    → AreOldest a.ins.items stations taken → taken ≡ tokens_in l v (fired_after l k v)
took l k g v a stations taken actor beside hold oldest =
    let many : length taken ≡ length (ins_of l v) = oldest.many ∙ ap length actor.drains in
    same_number_lists taken (tokens_in l v (fired_after l k v)) (many ∙ sym (length-map (ins_of l v) (λ (s : ℕ). token_of_life l s (fired_after l k v))))
    (λ i within. took_at l k g v i a stations taken actor beside hold oldest (omega arith))

-- where an actor puts the tokens of a number, each is the one that its station wants
pub offers : (l : Life) (k v n : ℕ) (into : List ℕ) → into ≡ tokens_out l v n
    → ((station : ℕ) → station < stations_of l → filler (links_of l.setup.system) l.setup.placement station ≡ v → n ≡ put_after l k station)
    → (i station : ℕ) → slice_get (outs_of l v) i ≡ Some station → get_or into i 0 ≡ token_of_life l station (put_after l k station)
offers l k v n into is next i station at =
    let own = filled_is (links_of l.setup.system) l.setup.placement v i station at in
    let within : i < length (outs_of l v) = slice_get_within (outs_of l v) i station at in
    ap (λ (xs : List ℕ). get_or xs i 0) is
    ∙ get_or-map (λ (s : ℕ). token_of_life l s n) (outs_of l v) i 0 0 within
    ∙ ap (λ (s : ℕ). token_of_life l s n) (get_or_from_slice_get (outs_of l v) i station 0 at)
    ∙ ap (λ (j : ℕ). token_of_life l station j) (next station own.0 own.1)

-- a station that a node fills wants the token of the next number, where there are rows
pub node_next : (r : RunsGoByRules) (l : Life) (k v station : ℕ) → IsLife l → v < length l.setup.system.nodes → 0 < length l.setup.input
    → station < stations_of l → filler (links_of l.setup.system) l.setup.placement station ≡ v → fired_after l k v + 1 ≡ put_after l k station
node_next r l k v station life node some there fills =
    let same : fired_after l k (filler (links_of l.setup.system) l.setup.placement station) ≡ fired_after l k v = ap (fired_after l k) fills in
    elim (r.starts l.setup.system l.setup.placement station life.system life.fits there) [
      | inl h ↦ (let one : start_count l.setup.placement station ≡ 1 = h.1 in omega arith)
      | inr h ↦ (let past : length l.setup.system.nodes ≤ filler (links_of l.setup.system) l.setup.placement station = h.0 in absurd (omega arith))
    ]

-- one that a mover fills wants that of the same number
pub mover_next : (r : RunsGoByRules) (l : Life) (k v station : ℕ) → IsLife l → length l.setup.system.nodes ≤ v
    → station < stations_of l → filler (links_of l.setup.system) l.setup.placement station ≡ v → fired_after l k v ≡ put_after l k station
mover_next r l k v station life mover there fills =
    let same : fired_after l k (filler (links_of l.setup.system) l.setup.placement station) ≡ fired_after l k v = ap (fired_after l k) fills in
    elim (r.starts l.setup.system l.setup.placement station life.system life.fits there) [
      | inl h ↦ (let before : filler (links_of l.setup.system) l.setup.placement station < length l.setup.system.nodes = h.0 in absurd (omega arith))
      | inr h ↦ (let none : start_count l.setup.placement station ≡ 0 = h.1 in omega arith)
    ]

-- the sink fills no station
pub sink_fills_none : (r : RunsGoByRules) (l : Life) (v station : ℕ) → IsLife l → v + 1 ≡ length l.setup.system.nodes
    → station < stations_of l → filler (links_of l.setup.system) l.setup.placement station ≡ v → ⊥
sink_fills_none r l v station life last there fills =
    let between = r.between l.setup.system l.setup.placement station life.system life.fits there in
    between.not_sink (ap (λ (n : ℕ). n + 1) fills ∙ last)

-- the tokens that a node takes are those of the channels that lead to it
pub node_takes : (r : RunsGoByRules) (l : Life) (v i : ℕ) → IsLife l → v < length l.setup.system.nodes → tokens_in l v i ≡ tokens_to l.setup.system l.setup.table v i
node_takes r l v i life node = r.drained l.setup.system l.setup.placement l.setup.table v i life.system life.fits node

-- those that it puts are those of the channels that come from it
pub node_puts : (r : RunsGoByRules) (l : Life) (v i : ℕ) → IsLife l → v < length l.setup.system.nodes → tokens_out l v i ≡ tokens_from l.setup.system l.setup.table v i
node_puts r l v i life node = r.filled l.setup.system l.setup.placement l.setup.table v i life.system life.fits node

-- a mover puts what it takes
pub mover_puts : (r : RunsGoByRules) (l : Life) (v i : ℕ) → IsLife l → length l.setup.system.nodes ≤ v → v < actors_of l → tokens_in l v i ≡ tokens_out l v i
mover_puts r l v i life mover there =
    let moves = r.moves l.setup.system l.setup.placement v life.system life.fits mover there in
    let station : ℕ = moves.0 in
    ap (map (λ (s : ℕ). token_of_life l s i)) moves.1.drained
    ∙ ap (λ (t : ℕ). t ∷ []) (sym (moves.1.tokens l.setup.table i))
    ∙ sym (ap (map (λ (s : ℕ). token_of_life l s i)) moves.1.filled)
