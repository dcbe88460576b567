-- How far turns bring actors.
use Rattle.std.specs.Prelude.{◌≡◌, ℕ, ◌+◌, ◌<◌, ◌≤◌, length, Some, slice_get}
use Rattle.lid_station.specs.Boards.{Ends}
use Rattle.lid_board.specs.declared.board.Board.{Board}
use Rattle.lid_shell_laws.specs.Setups.{Setup}
use Rattle.lid_shell.specs.declared.actor.Actor.{Actor}
use Rattle.lid_free_crew.specs.Posts.{known, AgreesAt}
use Rattle.lid_free_crew.specs.Tallies.{misses_of}
use Rattle.lid_free_crew.specs.declared.worker.Worker.{Worker}

-- an actor has made so many turns: it has the stations and the cap that it had, and is at rest and in agreement in
-- each setup in which it was. Below its cap each turn was a firing or a miss at one of its ends; turns at the cap
-- are neither
pub record HasMadeTurns (board : Board) (turns : ℕ) (before : Ends) (old : Actor) (now : Ends) (new : Actor) : Type 0 where
  pub drains : new.desk.ins.items ≡ old.desk.ins.items
  pub fills : new.desk.outs.items ≡ old.desk.outs.items
  pub capped : new.desk.cap ≡ old.desk.cap
  pub grows : old.desk.fired ≤ new.desk.fired
  pub often : new.desk.fired ≤ old.desk.fired + turns
  pub agrees : (m : Setup) (v : ℕ) → AgreesAt m v board before old → AgreesAt m v board now new
  pub below : new.desk.fired < new.desk.cap → new.desk.fired + misses_of now new ≡ old.desk.fired + misses_of before old + turns
  pub most : new.desk.fired + misses_of now new ≤ old.desk.fired + misses_of before old + turns

-- each actor of a worker has made so many rounds
pub record HaveGone (board : Board) (rounds : ℕ) (old new : Worker) : Type 0 where
  pub many : length new.actors.items ≡ length old.actors.items
  pub each :
      (i : ℕ) (a b : Actor) → slice_get old.actors.items i ≡ Some a → slice_get new.actors.items i ≡ Some b
      → HasMadeTurns board rounds (known old.hand) a (known new.hand) b
