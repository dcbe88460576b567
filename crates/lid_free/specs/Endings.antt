-- Serves the bodies: how a run ends whose workers made so many rounds.
use Rattle.std.specs.Prelude.{◌≡◌, ℕ, ◌<◌, ◌≤◌, length, Some, slice_get}
use Rattle.lid_base.specs.declared.runs.Tally.{Tally}
use Rattle.lid_walk_machine.specs.Plans.{actors_of, stations_of, sink}
use Rattle.lid_walk_machine.specs.Setups.{plan, output_rows}
use Rattle.lid_shell_laws.specs.Setups.{Setup}
use Rattle.lid_shell.specs.Parts.{AreColumnsAtSink}
use Rattle.lid_free.specs.FreeRuns.{IsShareTally, FitStations, AreWithinRounds, FirstTurnsFire, AreSweeps, Finishes}
use Rattle.lid_free.specs.Workers.{CountsRun}
use Rattle.lid_free.specs.declared.run.FreeEnd.{FreeEnd}

pub record IsEnding (m : Setup) (workers made : ℕ) (e : FreeEnd) : Type 0 where
  pub columns : AreColumnsAtSink m (sink (plan m)) e.rows.columns
  pub rows : e.rows.bits ≡ output_rows m (length m.input)
  pub tallies_many : length e.tallies ≡ workers
  pub fired_many : length e.fired ≡ actors_of (plan m)
  pub passed_many : length e.passed ≡ stations_of (plan m)
  pub tallies_are : (i : ℕ) (t : Tally) → slice_get e.tallies i ≡ Some t → IsShareTally (plan m) workers made e.fired i t
  pub fit : FitStations (plan m) e.fired e.passed
  pub few : AreWithinRounds (plan m) made e.fired
  pub first : 0 < made → FirstTurnsFire (plan m) e.fired
  pub alone : workers ≡ 1 → AreSweeps (plan m) made e.tallies e.fired e.passed
  pub finishes : 0 < workers → Finishes (plan m) e.tallies e.fired e.finish e.finish_fired
  pub run : CountsRun m workers made e.tallies e.fired
