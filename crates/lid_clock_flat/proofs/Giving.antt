-- A flat run that is given its next row.
use Rattle.std.proofs.Common.{◌≡◌, ℕ, ◌+◌, ◌-◌, ◌<◌, ◌≤◌, Bool, false, List, length, set, refl, sym, ◌∙◌, ap, subst, arith, length-set}
use Rattle.std.specs.Prelude.{Some, slice_get}
use Rattle.std.proofs.lemmas.Option.{slice_get_within}
use Rattle.lid_base.proofs.Places.{set_here, set_there}
use Rattle.lid_clock.specs.declared.actor.ClockActor.{ClockActor}
use Rattle.lid_clock.specs.Lives.{Life, NeedsRow, fired_after, sink}
use Rattle.lid_clock.specs.States.{IsActor}
use Rattle.lid_clock.specs.Cycles.{CanTake, TakesRow}
use Rattle.lid_clock.proofs.Giving.{source_given, other_given}
use Rattle.lid_clock_flat.specs.declared.run.FlatRun.{FlatRun}
use Rattle.lid_clock_flat.specs.Flats.{AreFlat, AreMovers, AreNodesAt}
use Rattle.lid_clock_flat.specs.Wakings.{AreUnset, AreAsleep}
use Rattle.lid_clock_flat.specs.Runs.{FlatRan}
use mathlib.Core.Logic.{dite}
use native.Mathlib.Decide.{ℕ_discrete}

nodes_given : (l : Life) (k g : ℕ) (nodes : List ClockActor) (new : ClockActor) → AreNodesAt l k g nodes → IsActor l (g + 1) 0 (fired_after l k 0) new → AreNodesAt l k (g + 1) (set nodes 0 new)
nodes_given l k g nodes new all source = record {
  many = length-set nodes 0 new ∙ all.many;
  each = λ v a there.
      dite (ℕ_discrete v 0)
      (λ first.
      let here : new ≡ a = set_here nodes 0 new a (subst (λ (n : ℕ). slice_get (set nodes 0 new) n ≡ Some a) first there) in
      subst (λ (n : ℕ). IsActor l (g + 1) n (fired_after l k n) a) (sym first) (subst (IsActor l (g + 1) 0 (fired_after l k 0)) here source))
      (λ later. other_given l g v (fired_after l k v) a (all.each v a (sym (set_there nodes 0 v new later) ∙ there)) (omega arith));
}

asleep_given : (l : Life) (k : ℕ) (nodes : List ClockActor) (old new : ClockActor) (awake : List Bool) → AreAsleep l k nodes awake → slice_get nodes 0 ≡ Some old → new.went ≡ old.went → AreAsleep l k (set nodes 0 new) awake
asleep_given l k nodes old new awake asleep there same = record {
  many = asleep.many;
  barred = asleep.barred;
  rested = λ v a e at.
      dite (ℕ_discrete v 0)
      (λ first.
      let here : new ≡ a = set_here nodes 0 new a (subst (λ (n : ℕ). slice_get (set nodes 0 new) n ≡ Some a) first at) in
      ap (λ (b : ClockActor). b.went) (sym here) ∙ same ∙ asleep.rested 0 old (subst (λ (n : ℕ). slice_get awake n ≡ Some false) first e) there)
      (λ later. asleep.rested v a e (sym (set_there nodes 0 v new later) ∙ at));
}

pub gave : (l : Life) (k g : ℕ) (x new : FlatRun) (old source : ClockActor) (row : List Bool) → FlatRan l k g x → NeedsRow l k g → slice_get l.setup.input g ≡ Some row → slice_get x.nodes.items 0 ≡ Some old
    → CanTake old.part (length row) → TakesRow old.part row source.part → source ≡ record old { part = source.part }
    → new.nodes.items ≡ set x.nodes.items 0 source → new.movers ≡ x.movers → new.stations ≡ x.stations → new.went ≡ x.went → new.awake ≡ x.awake → new.rows ≡ x.rows → new.given ≡ x.given + 1 → FlatRan l k (g + 1) new
gave l k g x new old source row ran needs at there can takes rest are_nodes movers stations went awake rows given =
    let within : g < length l.setup.input = slice_get_within l.setup.input g row at in
    let actor : IsActor l g 0 (fired_after l k 0) old = ran.all_nodes.each 0 old there in
    let now : IsActor l (g + 1) 0 (fired_after l k 0) source = source_given l g (fired_after l k 0) old source row ran.rules actor needs.lacks at can takes rest in
    let least : 2 ≤ length l.setup.system.nodes = ran.rules.system.least in
    let last : sink l ≡ length l.setup.system.nodes - 1 = refl in
    record {
      rules = ran.rules;
      rows_are = rows ∙ ran.rows_are;
      given_is = given ∙ ap (λ (n : ℕ). n + 1) ran.given_is;
      few = omega arith;
      all_nodes = subst (AreNodesAt l k (g + 1)) (sym are_nodes) (nodes_given l k g x.nodes.items source ran.all_nodes now);
      all_movers = subst (λ m. AreMovers l k m.items) (sym movers) ran.all_movers;
      all_stations = subst (λ s. AreFlat l k s.all.items s.places.items) (sym stations) ran.all_stations;
      flags = ap (λ w. length w.items) went ∙ ran.flags;
      unset = subst (λ w. AreUnset 0 w.items) (sym went) ran.unset;
      asleep = subst (λ ns. AreAsleep l k ns new.awake.items) (sym are_nodes) (subst (λ w. AreAsleep l k (set x.nodes.items 0 source) w.items) (sym awake) (asleep_given l k x.nodes.items old source x.awake.items ran.asleep there (ap (λ (b : ClockActor). b.went) rest)));
      latest = λ a here.
          ran.latest a (sym (set_there x.nodes.items 0 (sink l) source (λ first. omega arith)) ∙ subst (λ (xs : List ClockActor). slice_get xs (sink l) ≡ Some a) are_nodes here);
    }
