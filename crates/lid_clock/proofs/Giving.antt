-- A run that is given its next row.
use Rattle.std.proofs.Common.{◌≡◌, ℕ, ◌+◌, ◌-◌, ◌<◌, ◌≤◌, Bool, List, length, set, refl, sym, ◌∙◌, ap, subst, arith, length-set}
use Rattle.std.specs.Prelude.{Some, slice_get}
use Rattle.std.proofs.lemmas.Option.{slice_get_within}
use Rattle.lid_shell_nodes.specs.Wiring.{IsSourceOf}
use Rattle.lid_clock.specs.declared.part.Role.{Role}
use Rattle.lid_clock.specs.declared.part.Role.TheVariants.{Source, Shell, Mover, Sink}
use Rattle.lid_clock.specs.declared.actor.ClockActor.{ClockActor}
use Rattle.lid_clock.specs.declared.stream.ClockStream.{ClockStream}
use Rattle.lid_clock.specs.Parts.{IsOfSize}
use Rattle.lid_clock.specs.Actors.{HasPlaces, IsSameActor}
use Rattle.lid_clock.specs.Lives.{Life, IsLife, NeedsRow, fired_after, sink}
use Rattle.lid_shell_laws.specs.Setups.{IsInputRow}
use Rattle.lid_clock.specs.States.{IsRole, IsActor, AreActors, AreStations}
use Rattle.lid_clock.specs.Ran.{Ran}
use Rattle.lid_clock.specs.Cycles.{CanTake, TakesRow}
use Rattle.lid_clock.proofs.Staying.{stays, stays_but_part}
use mathlib.Core.Logic.{dite}
use native.Mathlib.Decide.{ℕ_discrete}
use Rattle.lid_base.proofs.Places.{set_here, set_there}

-- the source of a life can take a row that is as wide as its columns
part_can_take : (l : Life) (g fired ins outs : ℕ) (part : Role) (row : List Bool) → IsRole l g 0 fired part → IsOfSize part ins outs → IsInputRow l.setup.system row → CanTake part (length row)
part_can_take l g fired ins outs (Source node line) row is size wide = size.0 ∙ is.1.wide ∙ sym (wide is.1.columns is.1.node)
part_can_take l g fired ins outs _ row is size wide = tt

pub can_take : (l : Life) (g fired : ℕ) (a : ClockActor) (row : List Bool) → IsActor l g 0 fired a → IsInputRow l.setup.system row → CanTake a.part (length row)
can_take l g fired a row actor wide = part_can_take l g fired _ _ a.part row actor.is actor.places.size wide

-- the source of a life takes the next row
part_given : (l : Life) (g fired : ℕ) (old new : Role) (row : List Bool) → IsLife l → IsRole l g 0 fired old → g ≡ fired + 1 → slice_get l.setup.input g ≡ Some row → TakesRow old row new → IsRole l (g + 1) 0 fired new
part_given l g fired (Source node line) (Source now given) row life is lacks at takes = (
  refl,
  subst (IsSourceOf l.setup.system) (sym takes.0) is.1,
  λ some. record {
    next = omega arith;
    near = omega arith;
    is = ap (slice_get l.setup.input) (omega arith) ∙ at ∙ ap (λ (xs : List Bool). Some xs) (sym takes.1);
  },
)
part_given l g fired (Source node line) _ row life is lacks at takes = absurd takes
part_given l g fired (Shell node) new row life is lacks at takes = absurd (omega (arith, is.0))
part_given l g fired Mover new row life is lacks at takes = let least : 2 ≤ length l.setup.system.nodes = life.system.least in let past : length l.setup.system.nodes ≤ 0 = is in absurd (omega arith)
part_given l g fired (Sink node line) new row life is lacks at takes = let least : 2 ≤ length l.setup.system.nodes = life.system.least in let last : 0 + 1 ≡ length l.setup.system.nodes = is.last in absurd (omega arith)

size_given : (old new : Role) (row : List Bool) (ins outs : ℕ) → IsOfSize old ins outs → CanTake old (length row) → TakesRow old row new → IsOfSize new ins outs
size_given (Source node line) (Source now given) row ins outs size can takes =
    (ap length takes.1 ∙ sym can ∙ size.0 ∙ ap (λ n. n.width) (sym takes.0), size.1 ∙ ap (λ n. length n.ports) (sym takes.0))
size_given (Source node line) _ row ins outs size can takes = absurd takes
size_given (Shell node) new row ins outs size can takes = subst (λ (p : Role). IsOfSize p ins outs) (sym takes) size
size_given Mover new row ins outs size can takes = subst (λ (p : Role). IsOfSize p ins outs) (sym takes) size
size_given (Sink node line) new row ins outs size can takes = subst (λ (p : Role). IsOfSize p ins outs) (sym takes) size

-- the source after it took the row
pub source_given : (l : Life) (g fired : ℕ) (old new : ClockActor) (row : List Bool) → IsLife l → IsActor l g 0 fired old → g ≡ fired + 1 → slice_get l.setup.input g ≡ Some row
    → CanTake old.part (length row) → TakesRow old.part row new.part → new ≡ record old { part = new.part } → IsActor l (g + 1) 0 fired new
source_given l g fired old new row life actor lacks at can takes rest =
    let taken : length new.taken.items ≡ length old.taken.items = ap (λ (a : ClockActor). length a.taken.items) rest in
    let tokens : length new.tokens.items ≡ length old.tokens.items = ap (λ (a : ClockActor). length a.tokens.items) rest in
    let same : IsSameActor old new = record { ins = ap (λ (a : ClockActor). a.ins.items) rest; outs = ap (λ (a : ClockActor). a.outs.items) rest; cap = ap (λ (a : ClockActor). a.cap) rest } in
    let places : HasPlaces new = record {
      taken = taken ∙ actor.places.taken ∙ sym (ap length same.ins);
      tokens = tokens ∙ actor.places.tokens ∙ sym (ap length same.outs);
      size =
          subst (λ (n : ℕ). IsOfSize new.part n (length new.tokens.items)) (sym taken)
          (subst (λ (n : ℕ). IsOfSize new.part (length old.taken.items) n) (sym tokens)
          (size_given old.part new.part row (length old.taken.items) (length old.tokens.items) actor.places.size can takes));
    } in
    stays l g (g + 1) 0 fired fired old new actor same (ap (λ (a : ClockActor). a.fired) rest ∙ actor.fired_is) places (part_given l g fired old.part new.part row life actor.is lacks at takes)

-- the other actors do not depend on how many rows were given
part_else : (l : Life) (g v fired : ℕ) (part : Role) → IsRole l g v fired part → 0 < v → IsRole l (g + 1) v fired part
part_else l g v fired (Source node line) is later = let first : v ≡ 0 = is.0 in absurd (omega arith)
part_else l g v fired (Shell node) is later = is
part_else l g v fired Mover is later = is
part_else l g v fired (Sink node line) is later = is

pub other_given : (l : Life) (g v fired : ℕ) (a : ClockActor) → IsActor l g v fired a → 0 < v → IsActor l (g + 1) v fired a
other_given l g v fired a actor later = stays_but_part l g (g + 1) v fired a actor (part_else l g v fired a.part actor.is later)

actors_given : (l : Life) (k g : ℕ) (actors : List ClockActor) (new : ClockActor) → AreActors l k g actors → IsActor l (g + 1) 0 (fired_after l k 0) new → AreActors l k (g + 1) (set actors 0 new)
actors_given l k g actors new all source =
    record {
      many = length-set actors 0 new ∙ all.many;
      each = λ v a there.
          dite (ℕ_discrete v 0)
          (λ first.
          let here : new ≡ a = set_here actors 0 new a (subst (λ (n : ℕ). slice_get (set actors 0 new) n ≡ Some a) first there) in
          subst (λ (n : ℕ). IsActor l (g + 1) n (fired_after l k n) a) (sym first) (subst (IsActor l (g + 1) 0 (fired_after l k 0)) here source))
          (λ later. other_given l g v (fired_after l k v) a (all.each v a (sym (set_there actors 0 v new later) ∙ there)) (omega arith));
    }

-- a run that is given the next row of a life
pub gave : (l : Life) (k g : ℕ) (x new : ClockStream) (old source : ClockActor) (row : List Bool) → Ran l k g x → NeedsRow l k g → slice_get l.setup.input g ≡ Some row → slice_get x.actors.items 0 ≡ Some old
    → CanTake old.part (length row) → TakesRow old.part row source.part → source ≡ record old { part = source.part }
    → new.actors.items ≡ set x.actors.items 0 source → new.stations ≡ x.stations → new.rows ≡ x.rows → new.given ≡ x.given + 1 → new.sink ≡ x.sink → Ran l k (g + 1) new
gave l k g x new old source row ran needs at there can takes rest is_actors is_stations rows given sunk =
    let within : g < length l.setup.input = slice_get_within l.setup.input g row at in
    let actor : IsActor l g 0 (fired_after l k 0) old = ran.all_actors.each 0 old there in
    let now : IsActor l (g + 1) 0 (fired_after l k 0) source = source_given l g (fired_after l k 0) old source row ran.rules actor needs.lacks at can takes rest in
    let least : 2 ≤ length l.setup.system.nodes = ran.rules.system.least in
    let last : sink l ≡ length l.setup.system.nodes - 1 = refl in
    record {
      rules = ran.rules;
      rows_are = rows ∙ ran.rows_are;
      given_is = given ∙ ap (λ (n : ℕ). n + 1) ran.given_is;
      few = omega arith;
      sink_is = sunk ∙ ran.sink_is;
      all_actors = subst (AreActors l k (g + 1)) (sym is_actors) (actors_given l k g x.actors.items source ran.all_actors now);
      all_stations = subst (λ s. AreStations l k s.items) (sym is_stations) ran.all_stations;
      latest = λ a here.
          ran.latest a (sym (set_there x.actors.items 0 (sink l) source (λ first. omega arith)) ∙ subst (λ (xs : List ClockActor). slice_get xs (sink l) ≡ Some a) is_actors here);
    }
