-- Serves the bodies: what is left of the parallel phase.
use Rattle.std.specs.Prelude.{◌≡◌, ℕ, ◌<◌, ◌≤◌, List, [], ◌∷◌, length, get_or, Some, slice_get, vec_capacity}
use Rattle.lid_base.specs.Each.{from_each}
use Rattle.lid_base.specs.declared.runs.Tally.{Tally}
use Rattle.lid_station.specs.declared.pair.Pair.{Pair}
use Rattle.lid_walk_machine.specs.Plans.{actors_of}
use Rattle.lid_walk_machine.specs.Setups.{plan}
use Rattle.lid_shell_laws.specs.Setups.{Setup, IsSetup}
use Rattle.lid_walk_machine.specs.Machine.{begun, sweeps}
use Rattle.lid_walk_machine.specs.Laws.{IsSound}
use Rattle.lid_shell.specs.declared.actor.Actor.{Actor}
use Rattle.lid_walk.specs.Actors.{AreActors}
use Rattle.lid_walk.specs.Walks.{IsBoard}
use Rattle.lid_free_crew.specs.Alone.{run_from, rounds_of}
use Rattle.lid_free_crew.specs.Crews.{HaveWorked}
use Rattle.lid_free.specs.Settings.{AreEndsGiven, IsCrewOf}
use Rattle.lid_free.specs.FreeRuns.{IsShareTally, AreWithinRounds, FirstTurnsFire, state_of_counts}
use Rattle.lid_free.specs.declared.setting.Boards.{Boards}
use Rattle.lid_free.specs.declared.setting.Crew.{Crew}
use Rattle.lid_free.specs.Workers.{fired_of, CountsRun}

-- the workers have made so many rounds
pub record HasWorkedOut (m : Setup) (workers made : ℕ) (b : Boards) (c : Crew) : Type 0 where
  pub given : AreEndsGiven m b
  pub old : Crew
  pub set : IsCrewOf m b.board workers old
  pub worked : HaveWorked b.board made old.workers.items c.workers.items
  pub actors_many : c.actors ≡ actors_of (plan m)
  pub none : c.back.items ≡ []
  pub capacity : c.actors ≤ vec_capacity c.back

-- what one worker did is what the machine does
pub record AreMachines (m : Setup) (made : ℕ) (tallies : List Tally) (fired : List ℕ) : Type 0 where
  pub tally : tallies ≡ (rounds_of (plan m) (from_each (λ v. v) 0 (actors_of (plan m))) made (run_from begun)).tally ∷ []
  pub fired_are : (v : ℕ) → v < actors_of (plan m) → get_or fired v 0 ≡ (sweeps (plan m) begun made v).fired

-- all were gathered: the actors in their order, over a plain board that agrees with them
pub record AreGathered (m : Setup) (workers made : ℕ) (pairs : List Pair) (actors : List Actor) (tallies : List Tally) : Type 0 where
  pub rules : IsSetup m
  pub actors_are : AreActors m (state_of_counts (fired_of actors)) actors
  pub board : IsBoard m (state_of_counts (fired_of actors)) pairs
  pub sound : IsSound (plan m) (state_of_counts (fired_of actors))
  pub tallies_many : length tallies ≡ workers
  pub tallies_are : (i : ℕ) (t : Tally) → slice_get tallies i ≡ Some t → IsShareTally (plan m) workers made (fired_of actors) i t
  pub few : AreWithinRounds (plan m) made (fired_of actors)
  pub first : 0 < made → FirstTurnsFire (plan m) (fired_of actors)
  pub alone : workers ≡ 1 → AreMachines m made tallies (fired_of actors)
  pub run : CountsRun m workers made tallies (fired_of actors)
