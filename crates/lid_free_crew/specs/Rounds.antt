-- Serves the bodies: what was made so far, over turns and rounds.
use Rattle.std.specs.Prelude.{◌≡◌, ℕ, ◌+◌, ◌<◌, ◌≤◌, ◌==◌, cond, List, [], ◌∷◌, length, Some, slice_get}
use Rattle.lid_base.specs.declared.runs.Tally.{Tally}
use Rattle.lid_station.specs.Boards.{Ends}
use Rattle.lid_board.specs.declared.board.Board.{Board}
use Rattle.lid_walk_machine.specs.Setups.{plan}
use Rattle.lid_shell_laws.specs.Setups.{Setup}
use Rattle.lid_shell.specs.declared.actor.Actor.{Actor}
use Rattle.lid_free_crew.specs.Posts.{stations_of, IsEndOf, KeepsEnds}
use Rattle.lid_free_crew.specs.Tallies.{AddsUp, void_misses, stop_misses, fired_by, firings_of_done}
use Rattle.lid_free_crew.specs.Turns.{HasMadeTurns}
use Rattle.lid_free_crew.specs.Alone.{TurnsSoFar, AreAlone, round_of}

-- the first so many actors are at their caps
abbrev pub AreDone : ℕ → List Actor → Type 0
AreDone many actors = (i : ℕ) (a : Actor) → i < many → slice_get actors i ≡ Some a → a.desk.fired ≡ a.desk.cap

-- the turns of those actors that are at their caps, where each has made so many
abbrev pub done_turns : (ℕ → ℕ) → List Actor → ℕ
done_turns turns [] = 0
done_turns turns (a ∷ actors) = cond (a.desk.fired == a.desk.cap) (turns 0) 0 + done_turns (λ i. turns (i + 1)) actors

-- each actor has made so many turns, which are so many in all
pub record Made (board : Board) (turns : ℕ → ℕ) (total : ℕ) (before : Ends) (olds : List Actor) (was : Tally) (now : Ends) (news : List Actor) (is : Tally) : Type 0 where
  pub many : length news ≡ length olds
  pub each : (i : ℕ) (a b : Actor) → slice_get olds i ≡ Some a → slice_get news i ≡ Some b → HasMadeTurns board (turns i) before a now b
  pub keeps : KeepsEnds before now
  pub others : (e : ℕ) → ((i : ℕ) (a : Actor) → slice_get olds i ≡ Some a → IsEndOf a e → ⊥) → now e ≡ before e
  pub turns_are : is.turns ≡ was.turns + total
  pub fired_are : is.fired + fired_by olds ≡ was.fired + fired_by news
  pub voids_are : is.voids + void_misses before (stations_of board) ≡ was.voids + void_misses now (stations_of board)
  pub stops_are : is.stops + stop_misses before (stations_of board) ≡ was.stops + stop_misses now (stations_of board)
  pub adds_up : AddsUp is
  pub dones_most : is.dones + firings_of_done olds news ≤ was.dones + done_turns turns news

-- where actors were alone, they are so in the state of a run, and its tally is theirs
pub record IsWorkerRun (m : Setup) (numbers : List ℕ) (r : TurnsSoFar) (board : Board) (ends : Ends) (actors : List Actor) (tally : Tally) : Type 0 where
  pub alone : AreAlone m numbers r.state board actors ends
  pub tally_is : tally ≡ r.tally

-- a round was made: whatever was made before, there is one turn more of each actor
pub record GoesRound (board : Board) (before : Ends) (olds : List Actor) (was : Tally) (now : Ends) (news : List Actor) (is : Tally) : Type 0 where
  pub made :
      (turns : ℕ → ℕ) (total : ℕ) (first : Ends) (firsts : List Actor) (none : Tally)
      → Made board turns total first firsts none before olds was
      → Made board (λ i. turns i + 1) (total + length olds) first firsts none now news is
  pub runs :
      (m : Setup) (numbers : List ℕ) (r : TurnsSoFar)
      → IsWorkerRun m numbers r board before olds was → IsWorkerRun m numbers (round_of (plan m) numbers r) board now news is
