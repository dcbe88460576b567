-- The turns of a worker, one after another: what a turn of an actor is, which steps of the hand are its, and that in
-- each round the actors make theirs in the order of their places.
use Rattle.std.specs.Prelude.{◌≡◌, ◌↔◌, ℕ, zero, suc, ◌+◌, ◌≤◌, ◌==◌, ◌<◌, cond, List, [], ◌++◌, length, set, Some, slice_get}
use Rattle.lid_base.specs.declared.runs.Tally.{Tally}
use Rattle.lid_station.specs.Boards.{Ends}
use Rattle.lid_board.specs.Owners.{steps_of, start_ends}
use Rattle.lid_board.specs.Standing.{AreStreamsOf}
use Rattle.lid_board.specs.declared.board.Board.{Board}
use Rattle.lid_board.specs.declared.hand.Hand.{Hand}
use Rattle.lid_walk_machine.specs.Setups.{plan}
use Rattle.lid_shell_laws.specs.Setups.{Setup}
use Rattle.lid_walk_machine.specs.Machine.{State, turn, turn_answer}
use Rattle.lid_shell.specs.declared.actor.Actor.{Actor}
use Rattle.lid_shell.specs.declared.turn.TurnEnd.{TurnEnd}
use Rattle.lid_shell.specs.declared.turn.TurnEnd.TheVariants.{Done}
use Rattle.lid_shell.specs.Actors.{IsActor}
use Rattle.lid_shell.specs.Boards.{ServesAll}
use Rattle.lid_shell.specs.Steps.{Works}
use Rattle.lid_shell.specs.TurnEnds.{end_at}
use Rattle.lid_free_crew.specs.Posts.{known, stations_of, IsEndOf, KeepsEnds}
use Rattle.lid_free_crew.specs.Tallies.{counted, fired_one, void_one, stop_one, done_one, void_misses, stop_misses}
use Rattle.lid_free_crew.specs.Turns.{HasMadeTurns}
use Rattle.lid_free_crew.specs.declared.worker.Worker.{Worker}

-- 1 for an actor at its cap, else 0
abbrev pub at_cap : Actor → ℕ
at_cap a = cond (a.desk.fired == a.desk.cap) 1 0

-- an actor made a turn, which ended so: it is one turn further, no end but its own has changed, and the turn was
-- counted once, as a firing of it, as a miss at one of the known ends, or as done, exactly where it was at its cap.
-- Where both ends of all its stations are known, its turn is that of the interleaving machine
pub record EndsTurn (board : Board) (end : TurnEnd) (before : Ends) (old : Actor) (was : Tally) (now : Ends) (new : Actor) (is : Tally) : Type 0 where
  pub gone : HasMadeTurns board 1 before old now new
  pub others : (e : ℕ) → (IsEndOf old e → ⊥) → now e ≡ before e
  pub keeps : KeepsEnds before now
  pub counts : is ≡ counted end was
  pub fires : new.desk.fired ≡ old.desk.fired + fired_one end
  pub voids : void_misses now (stations_of board) ≡ void_misses before (stations_of board) + void_one end
  pub stops : stop_misses now (stations_of board) ≡ stop_misses before (stations_of board) + stop_one end
  pub done_late : done_one end ≤ at_cap new
  pub done : (end ≡ Done) ↔ (old.desk.fired ≡ old.desk.cap)
  pub exact :
      (m : Setup) (v : ℕ) (st : State)
      → (st v).position ≡ 0 → Works m v (st v) old before (AreStreamsOf (start_ends board)) → ServesAll m st v before
      → (end ≡ end_at (turn_answer (plan m) st v)) × IsActor m v (turn (plan m) st v v) new

-- an actor made a turn
abbrev pub MakesTurn : Board → Ends → Actor → Tally → Ends → Actor → Tally → Type 0
MakesTurn board before old was now new is = (end : TurnEnd) × EndsTurn board end before old was now new is

-- how an actor's turn shows in the steps of the hand, the latest first: these steps are more, all at ends of the actor,
-- at least one where it was below its cap and has a station, and none where it was at its cap
pub record HasMadeSteps (a : Actor) (old new : List ℕ) : Type 0 where
  pub made : List ℕ
  pub are : new ≡ made ++ old
  pub own : (i end : ℕ) → slice_get made i ≡ Some end → IsEndOf a end
  pub some : (a.desk.fired ≡ a.desk.cap → ⊥) → 0 < length a.desk.ins.items + length a.desk.outs.items → 0 < length made
  pub none : a.desk.fired ≡ a.desk.cap → made ≡ []

-- how far a worker is between two turns: what is known at the ends of its hand, at which ends the hand made its steps,
-- the worker's actors, and what was counted
pub record Stage : Type 0 where
  pub ends : Ends
  pub steps : List ℕ
  pub actors : List Actor
  pub tally : Tally

abbrev pub stage : Hand → List Actor → Tally → Stage
stage hand actors tally = record { ends = known hand; steps = steps_of hand; actors = actors; tally = tally }

abbrev pub stage_of : Worker → Stage
stage_of w = stage w.hand w.actors.items w.tally

-- the actor at this place made a turn, and the others are as they were
pub record TurnAt (board : Board) (place : ℕ) (s t : Stage) : Type 0 where
  pub old : Actor
  pub new : Actor
  pub there : slice_get s.actors place ≡ Some old
  pub turn : MakesTurn board s.ends old s.tally t.ends new t.tally
  pub steps : HasMadeSteps old s.steps t.steps
  pub others : t.actors ≡ set s.actors place new

-- the first so many actors made a turn each, one after another, from place 0 on
unfoldable pub TurnsMade : Board → ℕ → Stage → Stage → Type 0
TurnsMade board zero s t = t ≡ s
TurnsMade board (suc place) s t = (between : Stage) × TurnsMade board place s between × TurnAt board place between t

-- so many rounds were made, in each of which all actors made a turn, in order
unfoldable pub RoundsMade : Board → ℕ → Stage → Stage → Type 0
RoundsMade board zero s t = t ≡ s
RoundsMade board (suc rounds) s t = (between : Stage) × RoundsMade board rounds s between × TurnsMade board (length between.actors) between t

-- so it is of a worker
abbrev pub WorksInOrder : Board → ℕ → Worker → Worker → Type 0
WorksInOrder board rounds old new = RoundsMade board rounds (stage_of old) (stage_of new)
