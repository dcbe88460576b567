-- The workers of a free run as they begin, and that a run is theirs, turn by turn.
use Rattle.std.specs.Prelude.{◌≡◌, ℕ, ◌*◌, ◌/◌, ◌%◌, ◌<◌, ◌==◌, if◌then◌else◌, false, List, length, map, get_or, Some, slice_get, map}
use Rattle.lid_base.specs.declared.runs.Tally.{Tally}
use Rattle.lid_system.specs.declared.System.{System}
use Rattle.lid_station.specs.Boards.{fill, drain}
use Rattle.lid_stations.specs.declared.placement.Placement.{Placement}
use Rattle.lid_stations.specs.Placements.{Links, links_of}
use Rattle.lid_stations.specs.Stations.{filler, drainer}
use Rattle.lid_board.specs.Owners.{IsOf, start_ends}
use Rattle.lid_board.specs.Standing.{AreStreamsOf}
use Rattle.lid_board.specs.Views.{at}
use Rattle.lid_board.specs.declared.board.Board.{Board}
use Rattle.lid_board.specs.declared.view.EndFacts.{EndFacts}
use Rattle.lid_walk_machine.specs.Plans.{stations_of, start_of, room_of, stream}
use Rattle.lid_walk_machine.specs.Setups.{plan}
use Rattle.lid_shell_laws.specs.Setups.{Setup, IsSetup}
use Rattle.lid_walk_machine.specs.Machine.{begun}
use Rattle.lid_shell.specs.declared.actor.Actor.{Actor}
use Rattle.lid_walk.specs.Actors.{AreActors}
use Rattle.lid_free_crew.specs.declared.worker.Worker.{Worker}
use Rattle.lid_free_crew.specs.Nothing.{no_turns}
use Rattle.lid_free_crew.specs.Shares.{share}
use Rattle.lid_free_crew.specs.Crews.{HasShare, HaveWorked}

-- what is known at an end of a station that so many tokens have passed, at the start
pub record IsEndStart (m : Setup) (station passed : ℕ) (h : EndFacts) : Type 0 where
  pub cap : h.cap ≡ room_of (plan m) station
  pub start : h.start ≡ start_of (plan m) station
  pub passed_is : h.passed ≡ passed
  pub mark : h.mark ≡ false
  pub misses : h.misses ≡ 0

-- the board of a setup at its start: its stations with their streams, and nothing seen
pub record IsStarted (m : Setup) (board : Board) : Type 0 where
  pub many : length (start_ends board) ≡ 2 * stations_of (plan m)
  pub streams : AreStreamsOf (start_ends board) (stream (plan m))
  pub fills : (station : ℕ) → station < stations_of (plan m) → (h : EndFacts) × (at (start_ends board) (fill station) ≡ Some h) × IsEndStart m station (start_of (plan m) station) h
  pub drains : (station : ℕ) → station < stations_of (plan m) → (h : EndFacts) × (at (start_ends board) (drain station) ≡ Some h) × IsEndStart m station 0 h

-- the actor that owns an end
abbrev pub owner : Links → Placement → ℕ → ℕ
owner l p end = if end % 2 == 0 then filler l p (end / 2) else drainer l p (end / 2)

pub record AreOwners (s : System) (p : Placement) (many : ℕ) (owners : List ℕ) : Type 0 where
  pub many_are : length owners ≡ many
  pub each : (end : ℕ) → end < many → get_or owners end 0 ≡ owner (links_of s) p end

-- a worker of a run before it begins, with its share of ends and actors
pub record IsSetOutAs (m : Setup) (board : Board) (workers : ℕ) (owners : List ℕ) (actors : List Actor) (i : ℕ) (w : Worker) : Type 0 where
  pub number : w.number ≡ i
  pub of : IsOf w.hand board
  pub hand : HasShare workers owners (start_ends board) i w.hand
  pub none : w.tally ≡ no_turns
  pub actors_are : w.actors.items ≡ share workers i actors

-- all workers
pub record IsCrew (m : Setup) (board : Board) (workers : ℕ) (owners : List ℕ) (actors : List Actor) (crew : List Worker) : Type 0 where
  pub rules : IsSetup m
  pub some : 0 < workers
  pub many : length crew ≡ workers
  pub owners_are : AreOwners m.system m.placement (2 * stations_of (plan m)) owners
  pub actors_are : AreActors m begun actors
  pub started : IsStarted m board
  pub each : (i : ℕ) (w : Worker) → slice_get crew i ≡ Some w → IsSetOutAs m board workers owners actors i w

-- how often actors have fired
abbrev pub fired_of : List Actor → List ℕ
fired_of actors = map (λ a. a.desk.fired) actors

-- there is a run whose workers have these tallies, and whose actors fired so often: of workers that were set out over a
-- board at its start, each with its share, and that made so many rounds, turn by turn
pub record CountsRun (m : Setup) (workers made : ℕ) (tallies : List Tally) (fired : List ℕ) : Type 0 where
  pub board : Board
  pub owners : List ℕ
  pub dealt : List Actor
  pub first : List Worker
  pub last : List Worker
  pub set : IsCrew m board workers owners dealt first
  pub worked : HaveWorked board made first last
  pub tallies_are : tallies ≡ map (λ w. w.tally) last
  pub fired_are : (i : ℕ) (w : Worker) → slice_get last i ≡ Some w → fired_of w.actors.items ≡ share workers i fired
