-- A worker that shares no station with another: what it does is what the interleaving machine does.
use Rattle.std.specs.Prelude.{◌≡◌, ℕ, zero, suc, List, [], ◌∷◌, length, Some, slice_get}
use Rattle.lid_base.specs.declared.runs.Tally.{Tally}
use Rattle.lid_station.specs.Boards.{Ends}
use Rattle.lid_board.specs.Owners.{start_ends}
use Rattle.lid_board.specs.Standing.{AreStreamsOf}
use Rattle.lid_board.specs.declared.board.Board.{Board}
use Rattle.lid_walk_machine.specs.Plans.{Plan}
use Rattle.lid_walk_machine.specs.Setups.{plan}
use Rattle.lid_shell_laws.specs.Setups.{Setup, IsSetup}
use Rattle.lid_walk_machine.specs.Machine.{State, turn, turn_answer}
use Rattle.lid_shell.specs.declared.actor.Actor.{Actor}
use Rattle.lid_shell.specs.Boards.{ServesAll}
use Rattle.lid_shell.specs.Steps.{Works}
use Rattle.lid_shell.specs.TurnEnds.{end_at}
use Rattle.lid_free_crew.specs.Posts.{known}
use Rattle.lid_free_crew.specs.Tallies.{counted}
use Rattle.lid_free_crew.specs.Nothing.{no_turns}
use Rattle.lid_free_crew.specs.declared.worker.Worker.{Worker}

-- a state of the machine, and how the turns so far ended
pub record TurnsSoFar : Type 0 where
  pub state : State
  pub tally : Tally

-- nothing was counted
abbrev pub run_from : State → TurnsSoFar
run_from st = record { state = st; tally = no_turns }

-- one turn of actor v
abbrev pub turned : Plan → ℕ → TurnsSoFar → TurnsSoFar
turned m v r = record { state = turn m r.state v; tally = counted (end_at (turn_answer m r.state v)) r.tally }

-- a round: one turn of each of these actors, in order
unfoldable pub round_of : Plan → List ℕ → TurnsSoFar → TurnsSoFar
round_of m [] r = r
round_of m (v ∷ numbers) r = round_of m numbers (turned m v r)

-- so many rounds
unfoldable pub rounds_of : Plan → List ℕ → ℕ → TurnsSoFar → TurnsSoFar
rounds_of m numbers zero r = r
rounds_of m numbers (suc rounds) r = round_of m numbers (rounds_of m numbers rounds r)

-- these are the actors of a setup with these numbers, at rest, as far as a state says, and both ends of all their
-- stations are known, as the state counts
pub record AreAlone (m : Setup) (numbers : List ℕ) (st : State) (board : Board) (actors : List Actor) (ends : Ends) : Type 0 where
  pub rules : IsSetup m
  pub many : length actors ≡ length numbers
  pub once : (i j v : ℕ) → slice_get numbers i ≡ Some v → slice_get numbers j ≡ Some v → i ≡ j
  pub works : (i v : ℕ) (a : Actor) → slice_get numbers i ≡ Some v → slice_get actors i ≡ Some a → Works m v (st v) a ends (AreStreamsOf (start_ends board))
  pub rest : (i v : ℕ) → slice_get numbers i ≡ Some v → (st v).position ≡ 0
  pub serves : (i v : ℕ) → slice_get numbers i ≡ Some v → ServesAll m st v ends

-- so it is of a worker, whose hand has both ends of all stations of its actors
abbrev pub WorksAlone : Setup → List ℕ → State → Board → Worker → Type 0
WorksAlone m numbers st board w = AreAlone m numbers st board w.actors.items (known w.hand)

-- then its rounds are those of the machine over its actors
abbrev pub MakesRounds : Setup → List ℕ → State → Board → ℕ → Worker → Type 0
MakesRounds m numbers st board rounds new =
    WorksAlone m numbers (rounds_of (plan m) numbers rounds (run_from st)).state board new
    × (new.tally ≡ (rounds_of (plan m) numbers rounds (run_from st)).tally)
