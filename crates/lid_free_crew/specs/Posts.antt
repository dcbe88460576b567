-- Workers at their boards: what a hand knows, what a worker must have, and what stays.
use Rattle.std.specs.Prelude.{◌≡◌, ℕ, ◌≤◌, List, length, Some, None, slice_get}
use Rattle.lid_station.specs.Boards.{Facts, Ends}
use Rattle.lid_board.specs.Owners.{IsOf, ends_of, start_ends}
use Rattle.lid_board.specs.Standing.{AreStreamsOf}
use Rattle.lid_board.specs.Views.{facts_at}
use Rattle.lid_board.specs.declared.board.Board.{Board}
use Rattle.lid_board.specs.declared.hand.Hand.{Hand}
use Rattle.lid_shell_laws.specs.Setups.{Setup}
use Rattle.lid_walk_machine.specs.Machine.{Progress}
use Rattle.lid_shell.specs.declared.actor.Actor.{Actor}
use Rattle.lid_shell.specs.Steps.{Works, CanTurn, IsOwn}
use Rattle.lid_free_crew.specs.declared.worker.Worker.{Worker}
use Rattle.lid_free_crew.specs.Nothing.{no_turns}

-- what is known at the ends that a hand has
abbrev pub known : Hand → Ends
known hand = facts_at (ends_of hand)

-- how many stations a board has
abbrev pub stations_of : Board → ℕ
stations_of board = length board.caps.items

-- an actor at rest that has fired as often as this one
abbrev pub resting : Actor → Progress
resting a = record { fired = a.desk.fired; position = 0 }

-- it is actor v of a setup, at rest, and agrees with ends that stand for the streams of a board
abbrev pub AgreesAt : Setup → ℕ → Board → Ends → Actor → Type 0
AgreesAt m v board ends a = Works m v (resting a) a ends (AreStreamsOf (start_ends board))

-- it is one of some setup, so
abbrev pub IsAtWork : Board → Ends → Actor → Type 0
IsAtWork board ends a = CanTurn a ends (AreStreamsOf (start_ends board))

-- an end is one of an actor's
abbrev pub IsEndOf : Actor → ℕ → Type 0
IsEndOf a end = IsOwn a.desk.ins.items a.desk.outs.items end

-- no two of these actors share an end
abbrev pub AreApart : List Actor → Type 0
AreApart actors =
    (i j end : ℕ) → (a b : Actor) → slice_get actors i ≡ Some a → slice_get actors j ≡ Some b → IsEndOf a end → IsEndOf b end → i ≡ j

-- a worker is ready to work at a board
pub record IsReady (board : Board) (w : Worker) : Type 0 where
  pub of : IsOf w.hand board
  pub agree : (i : ℕ) (a : Actor) → slice_get w.actors.items i ≡ Some a → IsAtWork board (known w.hand) a
  pub apart : AreApart w.actors.items
  pub few : length w.actors.items ≤ 262144
  pub none : w.tally ≡ no_turns

-- what never changes at an end
pub record KeepsEnd (old new : Facts) : Type 0 where
  pub cap : new.cap ≡ old.cap
  pub start : new.start ≡ old.start

-- the ends that are known stay those, with their capacities and start counts
pub record KeepsEnds (old new : Ends) : Type 0 where
  pub none : (end : ℕ) → old end ≡ None → new end ≡ None
  pub some : (end : ℕ) (f : Facts) → old end ≡ Some f → (g : Facts) × (new end ≡ Some g) × KeepsEnd f g

-- a worker is the same afterwards, but for how far its actors are: its number, and a hand of the board with the
-- ends that it had. An end that no actor of it has stays as it was
pub record StaysAt (board : Board) (old new : Worker) : Type 0 where
  pub number : new.number ≡ old.number
  pub of : IsOf new.hand board
  pub ends : KeepsEnds (known old.hand) (known new.hand)
  pub others : (end : ℕ) → ((i : ℕ) (a : Actor) → slice_get old.actors.items i ≡ Some a → IsEndOf a end → ⊥) → known new.hand end ≡ known old.hand end
