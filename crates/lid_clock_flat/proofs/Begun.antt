-- A run that was built, and laid flat, is one that has made no cycle.
use Rattle.std.proofs.Common.{◌≡◌, ℕ, ◌≤◌, min, false, List, length, refl, sym, ◌∙◌, subst, arith}
use Rattle.std.specs.Prelude.{Some, slice_get}
use Rattle.lid_clock.specs.declared.actor.ClockActor.{ClockActor}
use Rattle.lid_clock.specs.declared.stream.ClockStream.{ClockStream}
use Rattle.lid_clock.specs.Rules.{RunsGoByRules}
use Rattle.lid_clock.specs.Lives.{Life, sink}
use Rattle.lid_clock.specs.Ran.{Ran}
use Rattle.lid_clock_flat.specs.declared.stations.FlatStations.{FlatStations}
use Rattle.lid_clock_flat.specs.declared.run.FlatRun.{FlatRun}
use Rattle.lid_clock_flat.specs.Layings.{AreEmptied, AreFlattened, DrainSome}
use Rattle.lid_clock_flat.specs.Flats.{AreFlat, AreNodesAt}
use Rattle.lid_clock_flat.specs.Runs.{FlatRan, IsFlatRunOf}
use borrow.Author.Clash.{clash}
use Rattle.lid_clock_flat.proofs.Laid.{none_fired, laid_flat, drain_some, laid_movers, first_nodes, first_at}

-- no token was taken from its stations, of which there are few, and its movers drain some
pub emptied : (l : Life) (g : ℕ) (x : ClockStream) → Ran l 0 g x → AreEmptied x.stations.items
emptied l g x ran s c at = (ran.all_stations.each s c at).taken_is ∙ none_fired l _

pub few_stations : (l : Life) (g : ℕ) (x : ClockStream) → Ran l 0 g x → length x.stations.items ≤ 65536
few_stations l g x ran = omega (arith, ran.all_stations.many, ran.rules.fits.rules.most)

pub movers_drain : (r : RunsGoByRules) (l : Life) (g count : ℕ) (x : ClockStream) → Ran l 0 g x → count ≡ length l.setup.system.nodes → DrainSome count x.actors.items
movers_drain r l g count x ran is = subst (λ (n : ℕ). DrainSome n x.actors.items) (sym is) (drain_some r l ran.rules g x.actors.items ran.all_actors)

pub begun : (r : RunsGoByRules) (l : Life) (g count rows : ℕ) (x : ClockStream) (stations : FlatStations) (run : FlatRun) → Ran l 0 g x → count ≡ length l.setup.system.nodes → rows ≡ length l.setup.input → g ≡ min 1 rows
    → AreFlattened x.stations.items (length x.stations.items) stations → IsFlatRunOf x.actors.items stations count rows run → FlatRan l 0 g run
begun r l g count rows x stations run ran is many given laid has = record {
  rules = ran.rules;
  rows_are = has.rows_are ∙ many;
  given_is = has.given_is ∙ sym given;
  few = ran.few;
  all_nodes = subst (AreNodesAt l 0 g) (sym has.nodes) (first_nodes r l ran.rules g count x.actors.items is ran.all_actors);
  all_movers = laid_movers r l ran.rules g count x.actors.items run.movers.items is ran.all_actors has.movers;
  all_stations = subst (λ (s : FlatStations). AreFlat l 0 s.all.items s.places.items) (sym has.stations_are) (laid_flat r l ran.rules x.stations.items stations ran.all_stations laid);
  flags = has.flags ∙ ran.all_actors.many;
  unset = has.unset;
  asleep = record {
    many = has.awake_many ∙ ran.all_actors.many;
    barred = λ v e. clash false (has.awake_all v false e) refl;
    rested = λ v a e at. clash false (has.awake_all v false e) refl;
  };
  latest = λ a at. ran.latest a (first_at count x.actors.items (sink l) a (subst (λ (xs : List ClockActor). slice_get xs (sink l) ≡ Some a) has.nodes at));
}
