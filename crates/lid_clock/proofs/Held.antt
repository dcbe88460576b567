-- A life with another hold is as that life was, before the holds differ.
use Rattle.std.proofs.Common.{◌≡◌, ℕ, zero, suc, ◌+◌, ◌<◌, ◌==◌, Bool, cond, List, length, refl, sym, ◌∙◌, ap, subst, arith, eq-eqb, ne_eqb}
use Rattle.std.proofs.Math.Path.{fun_ext}
use Rattle.lid_graph.specs.Firings.{Hold, Counts, firings, least_into}
use Rattle.lid_graph.specs.declared.graph.Edge.{Edge}
use Rattle.lid_stations.specs.Markings.{marking}
use Rattle.lid_shell_laws.specs.Runs.{cap_of, in_count, out_count}
use Rattle.lid_stations.specs.Placements.{links_of}
use Rattle.lid_clock.specs.declared.part.Role.{Role}
use Rattle.lid_clock.specs.declared.part.Role.TheVariants.{Source, Shell, Mover, Sink}
use Rattle.lid_clock.specs.declared.actor.ClockActor.{ClockActor}
use Rattle.lid_clock.specs.declared.station.ClockStation.{ClockStation}
use Rattle.lid_clock.specs.Lives.{Life, IsLife, Holds, fired_after, sink}
use Rattle.lid_clock.specs.States.{HoldsLast, IsRole, IsActor, AreActors, IsStation, AreStations, MayBegin, put_after, taken_after}
use Rattle.lid_clock.specs.Cycles.{held_at}

-- a life with another hold
abbrev pub held_so : Life → Hold → Life
held_so l hold = record l { hold = hold }

-- holds that are the same in the first k cycles
abbrev pub AgreeBefore : ℕ → Hold → Hold → Type 0
AgreeBefore k a b = (j v : ℕ) → j < k → a j v ≡ b j v

abbrev edges_of : Life → List Edge
edges_of l = (marking (links_of l.setup.system) l.setup.placement).edges

-- how often actors fire does not depend on later holds
pub fired_alike : (l : Life) (hold : Hold) (k : ℕ) → AgreeBefore k hold l.hold → fired_after (held_so l hold) k ≡ fired_after l k
unfolding firings
fired_alike l hold zero agree = refl
fired_alike l hold (suc k) agree =
    let before : fired_after (held_so l hold) k ≡ fired_after l k = fired_alike l hold k (λ j v below. agree j v (omega arith)) in
    fun_ext (λ v.
    ap (λ (b : Bool). cond b (fired_after (held_so l hold) k v) (least_into (edges_of l) (fired_after (held_so l hold) k) v (cap_of (links_of l.setup.system) (length l.setup.input) v))) (agree k v (omega arith))
    ∙ ap (λ (c : Counts). cond (l.hold k v) (c v) (least_into (edges_of l) c v (cap_of (links_of l.setup.system) (length l.setup.input) v))) before)

pub rules_alike : (l : Life) (hold : Hold) → IsLife l → IsLife (held_so l hold)
rules_alike l hold life = record { system = life.system; fits = life.fits; few = life.few; wide = life.wide; table = life.table }

last_alike : (l : Life) (hold : Hold) (g fired : ℕ) (row : List Bool) → HoldsLast l g fired row → HoldsLast (held_so l hold) g fired row
last_alike l hold g fired row last = record { next = last.next; near = last.near; is = last.is }

pub part_alike : (l : Life) (hold : Hold) (g v fired : ℕ) (part : Role) → IsRole l g v fired part → IsRole (held_so l hold) g v fired part
part_alike l hold g v fired (Source node row) is = (is.0, is.1, λ some. last_alike l hold g fired row.items (is.2 some))
part_alike l hold g v fired (Shell node) is = is
part_alike l hold g v fired Mover is = is
part_alike l hold g v fired (Sink node row) is = is

pub actor_alike : (l : Life) (hold : Hold) (g v fired : ℕ) (a : ClockActor) → IsActor l g v fired a → IsActor (held_so l hold) g v fired a
actor_alike l hold g v fired a actor =
    record {
      there = actor.there;
      drains = actor.drains;
      fills = actor.fills;
      capped = actor.capped;
      fired_is = actor.fired_is;
      places = actor.places;
      is = part_alike l hold g v fired a.part actor.is;
    }

station_alike : (l : Life) (hold : Hold) (station put taken : ℕ) (x : ClockStation) → IsStation l station put taken x → IsStation (held_so l hold) station put taken x
station_alike l hold station put taken x is =
    record { filled = is.filled; slot = is.slot; drained = is.drained; put_is = is.put_is; taken_is = is.taken_is; size = is.size; tokens = is.tokens }

-- all actors of a life are those of the other
pub actors_alike : (l : Life) (hold : Hold) (k g : ℕ) (actors : List ClockActor) → AgreeBefore k hold l.hold → AreActors l k g actors → AreActors (held_so l hold) k g actors
actors_alike l hold k g actors agree all =
    record {
      many = all.many;
      each = λ v a there. subst (λ (c : Counts). IsActor (held_so l hold) g v (c v) a) (sym (fired_alike l hold k agree)) (actor_alike l hold g v (fired_after l k v) a (all.each v a there));
    }

-- all stations too
pub stations_alike : (l : Life) (hold : Hold) (k : ℕ) (stations : List ClockStation) → AgreeBefore k hold l.hold → AreStations l k stations → AreStations (held_so l hold) k stations
stations_alike l hold k stations agree all =
    record {
      many = all.many;
      each = λ i x there.
          let is : IsStation (held_so l hold) i (put_after l k i) (taken_after l k i) x = station_alike l hold i (put_after l k i) (taken_after l k i) x (all.each i x there) in
          let same = fired_alike l hold k agree in
          let puts : put_after l k i ≡ put_after (held_so l hold) k i = ap (λ (c : Counts). in_count (links_of l.setup.system) l.setup.placement (length l.setup.input) c i) (sym same) in
          let takes : taken_after l k i ≡ taken_after (held_so l hold) k i = ap (λ (c : Counts). out_count (links_of l.setup.system) l.setup.placement c i) (sym same) in
          subst (λ (n : ℕ). IsStation (held_so l hold) i n (taken_after (held_so l hold) k i) x) puts (subst (λ (n : ℕ). IsStation (held_so l hold) i (put_after l k i) n x) takes is);
    }

-- a cycle may begin in the one as in the other
pub begins_alike : (l : Life) (hold : Hold) (k g : ℕ) → AgreeBefore k hold l.hold → MayBegin l k g → MayBegin (held_so l hold) k g
begins_alike l hold k g agree begins =
    record {
      rules = rules_alike l hold begins.rules;
      fed = λ needs.
          let same : fired_after (held_so l hold) k 0 ≡ fired_after l k 0 = ap (λ (c : Counts). c 0) (fired_alike l hold k agree) in
          let more : fired_after (held_so l hold) k 0 + 1 < length l.setup.input = needs.goes_on in
          let lacks : g ≡ fired_after (held_so l hold) k 0 + 1 = needs.lacks in
          begins.fed (record { goes_on = omega arith; lacks = omega arith });
    }

-- the hold of a life with that of cycle k replaced
abbrev pub replaced : Life → ℕ → Bool → Bool → Hold
replaced l k source last j v = cond (j == k) (held_at (sink l) source last v) (l.hold j v)

pub replaced_agrees : (l : Life) (k : ℕ) (source last : Bool) → AgreeBefore k (replaced l k source last) l.hold
replaced_agrees l k source last j v below = ap (λ (b : Bool). cond b (held_at (sink l) source last v) (l.hold j v)) (ne_eqb j k (λ same. omega arith))

pub replaced_holds : (l : Life) (k : ℕ) (source last : Bool) → Holds (held_so l (replaced l k source last)) k source last
replaced_holds l k source last v = ap (λ (b : Bool). cond b (held_at (sink l) source last v) (l.hold k v)) (eq-eqb k k refl)
