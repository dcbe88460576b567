-- Runs of a life through a cycle.
use Rattle.std.proofs.Common.{◌≡◌, ℕ, suc, ◌+◌, ◌<◌, ◌≤◌, Bool, true, false, cond, ◌==◌, List, length, refl, sym, ◌∙◌, ap, subst, arith, add-one}
use Rattle.std.specs.Prelude.{Some, slice_get}
use Rattle.lid_system.specs.Streams.{output_row}
use Rattle.lid_clock.specs.declared.actor.ClockActor.{ClockActor}
use Rattle.lid_clock.specs.declared.station.ClockStation.{ClockStation}
use Rattle.lid_clock.specs.declared.stream.ClockStream.{ClockStream}
use Rattle.lid_clock.specs.Lives.{Life, NeedsRow, Holds, fired_after, sink}
use Rattle.lid_clock.specs.States.{MayBegin, Decided, AreDecided, AreActors, AreStations, IsLatest, actors_of}
use Rattle.lid_clock.specs.Ran.{Ran}
use Rattle.lid_clock.specs.Cycles.{held_at, CanDecideAll, AllDecide, CanSettleAll, AllSettle}
use Rattle.lid_graph.specs.Firings.{Hold}
use Rattle.lid_clock.proofs.Held.{held_so, replaced, replaced_agrees, replaced_holds, begins_alike, actors_alike, stations_alike}
use Rattle.lid_clock.proofs.Told.{fired_is}
use Rattle.lid_base.proofs.Places.{item_at}

-- the source of a run
pub source_of : (l : Life) (k g : ℕ) (x : ClockStream) → Ran l k g x → (a : ClockActor) × (slice_get x.actors.items 0 ≡ Some a)
source_of l k g x ran =
    let least : 2 ≤ length l.setup.system.nodes = ran.rules.system.least in
    let many : length x.actors.items ≡ actors_of l = ran.all_actors.many in
    item_at x.actors.items 0 (omega arith)

-- whether a row is wanting depends on the run alone
pub needs_too : (l m : Life) (k g j h : ℕ) (x : ClockStream) → Ran l k g x → Ran m j h x → NeedsRow l k g → NeedsRow m j h
needs_too l m k g j h x ran too needs =
    let source = source_of l k g x ran in
    let one : source.0.fired ≡ fired_after l k 0 = fired_is l k g 0 x source.0 ran source.1 in
    let other : source.0.fired ≡ fired_after m j 0 = fired_is m j h 0 x source.0 too source.1 in
    let given : x.given ≡ g = ran.given_is in
    let as_given : x.given ≡ h = too.given_is in
    let rows : x.rows ≡ length l.setup.input = ran.rows_are in
    let as_many : x.rows ≡ length m.setup.input = too.rows_are in
    let more : fired_after l k 0 + 1 < length l.setup.input = needs.goes_on in
    let lacks : g ≡ fired_after l k 0 + 1 = needs.lacks in
    record { goes_on = omega arith; lacks = omega arith }

-- what the sink shows after its decision
pub latest : (l : Life) (k g : ℕ) (a : ClockActor) → Decided l k g (sink l) a → IsLatest l (suc k) a
latest l k g a decided =
    record {
      fired = λ went.
          let goes : fired_after l (suc k) (sink l) ≡ fired_after l k (sink l) + 1 = decided.goes went in (
            (k, sym (add-one k), goes),
            decided.row went refl ∙ ap (λ (n : ℕ). Some (output_row l.setup.system l.setup.table n)) (omega arith),
          );
      rested = λ went sunk.
          let rests : fired_after l (suc k) (sink l) ≡ fired_after l k (sink l) = decided.rests went in
          let last : suc k ≡ sunk.0 + 1 = sunk.1 in
          let before : sunk.0 ≡ k = omega arith in
          let same : fired_after l sunk.0 (sink l) ≡ fired_after l k (sink l) = ap (λ (n : ℕ). fired_after l n (sink l)) before in
          let rose : fired_after l (suc k) (sink l) ≡ fired_after l sunk.0 (sink l) + 1 = sunk.2 in
          omega arith;
    }

-- actors that have decided are those of the next cycle
pub decided_actors : (l : Life) (k g : ℕ) (actors : List ClockActor) → AreDecided l k g actors → AreActors l (suc k) g actors
decided_actors l k g actors decided = record { many = decided.many; each = λ v a there. (decided.each v a there).actor }

-- a run goes on by a cycle
pub ran_on : (l : Life) (k g : ℕ) (x new : ClockStream) (source last : Bool) (actors : List ClockActor) (stations : List ClockStation) → Ran l k g x → ¬ (NeedsRow l k g) → Holds l k source last
    → AllDecide x.actors.items x.stations.items x.sink source last actors → AllSettle x.stations.items actors stations
    → new.actors.items ≡ actors → new.stations.items ≡ stations → new.rows ≡ x.rows → new.given ≡ x.given → new.sink ≡ x.sink → Ran l (suc k) g new
ran_on l k g x new source last actors stations ran fed holds decides settles is_actors is_stations rows given sunk =
    let decided : AreDecided l k g actors = decides l k g (record { rules = ran.rules; fed = fed }) ran.all_actors ran.all_stations ran.sink_is holds in
    record {
      rules = ran.rules;
      rows_are = rows ∙ ran.rows_are;
      given_is = given ∙ ran.given_is;
      few = ran.few;
      sink_is = sunk ∙ ran.sink_is;
      all_actors = subst (AreActors l (suc k) g) (sym is_actors) (decided_actors l k g actors decided);
      all_stations = subst (AreStations l (suc k)) (sym is_stations) (settles l k g ran.rules ran.all_stations decided);
      latest = λ a there. latest l k g a (decided.each (sink l) a (subst (λ (xs : List ClockActor). slice_get xs (sink l) ≡ Some a) is_actors there));
    }

-- all actors of a run can decide, beside its stations
pub can_decide : (l : Life) (k g : ℕ) (x : ClockStream) (actors : List ClockActor) (stations : List ClockStation) → Ran l k g x → ¬ (NeedsRow l k g) → actors ≡ x.actors.items → stations ≡ x.stations.items → CanDecideAll actors stations
can_decide l k g x actors stations ran fed are beside =
    record {
      life = l;
      k = k;
      g = g;
      begins = record { rules = ran.rules; fed = fed };
      all = subst (AreActors l k g) (sym are) ran.all_actors;
      beside = subst (AreStations l k) (sym beside) ran.all_stations;
    }

-- they have decided as a run where they are its actors
pub decided : (x : ClockStream) (source last : Bool) (actors news : List ClockActor) (stations : List ClockStation) → actors ≡ x.actors.items → stations ≡ x.stations.items → AllDecide actors stations x.sink source last news → AllDecide x.actors.items x.stations.items x.sink source last news
decided x source last actors news stations are beside decides =
    subst (λ (xs : List ClockActor). AllDecide xs x.stations.items x.sink source last news) are
    (subst (λ (ys : List ClockStation). AllDecide actors ys x.sink source last news) beside decides)

-- and then all stations can settle: those of the life with the hold of this cycle
pub can_settle : (l : Life) (k g : ℕ) (x : ClockStream) (source last : Bool) (news actors : List ClockActor) (stations : List ClockStation) → Ran l k g x → ¬ (NeedsRow l k g)
    → AllDecide x.actors.items x.stations.items x.sink source last news → actors ≡ news → stations ≡ x.stations.items → CanSettleAll stations actors
can_settle l k g x source last news actors stations ran fed decides are beside =
    let hold : Hold = replaced l k source last in
    let life = held_so l hold in
    let agree = replaced_agrees l k source last in
    let begins : MayBegin life k g = begins_alike l hold k g agree (record { rules = ran.rules; fed = fed }) in
    let all : AreStations life k x.stations.items = stations_alike l hold k x.stations.items agree ran.all_stations in
    record {
      life = life;
      k = k;
      g = g;
      rules = begins.rules;
      all = subst (AreStations life k) (sym beside) all;
      decided = subst (AreDecided life k g) (sym are) (decides life k g begins (actors_alike l hold k g x.actors.items agree ran.all_actors) all ran.sink_is (replaced_holds l k source last));
    }

-- they have settled as a run where they are its stations
pub settled : (x : ClockStream) (news actors : List ClockActor) (stations left : List ClockStation) → actors ≡ news → stations ≡ x.stations.items → AllSettle stations actors left → AllSettle x.stations.items news left
settled x news actors stations left are beside settles =
    subst (λ (xs : List ClockActor). AllSettle x.stations.items xs left) are
    (subst (λ (ys : List ClockStation). AllSettle ys actors left) beside settles)

-- nobody is held where neither the source nor the sink is
of_both : (first last : Bool) → false ≡ cond first false (cond last false false)
of_both true last = refl
of_both false true = refl
of_both false false = refl

pub none_held : (v sunk : ℕ) → false ≡ held_at sunk false false v
none_held v sunk = of_both (v == 0) (v == sunk)

pub nobody_held : (l : Life) (k : ℕ) → ((v : ℕ) → l.hold k v ≡ false) → Holds l k false false
nobody_held l k nobody v = nobody v ∙ none_held v (sink l)
