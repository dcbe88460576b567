-- What a free run is set out with.
use Rattle.std.specs.Prelude.{◌≡◌, ℕ, ◌≤◌, List, [], length, Some, slice_get, vec_capacity}
use Rattle.lid_station.specs.declared.pair.Pair.{Pair}
use Rattle.lid_board.specs.Owners.{IsOf, ends_of, start_ends}
use Rattle.lid_board.specs.declared.board.Board.{Board}
use Rattle.lid_walk_machine.specs.Plans.{actors_of, stations_of, room_of}
use Rattle.lid_walk_machine.specs.Setups.{plan}
use Rattle.lid_shell_laws.specs.Setups.{Setup}
use Rattle.lid_shell.specs.declared.actor.Actor.{Actor}
use Rattle.lid_free_crew.specs.Crews.{HasNone}
use Rattle.lid_free.specs.declared.setting.Boards.{Boards}
use Rattle.lid_free.specs.declared.setting.Room.{Room}
use Rattle.lid_free.specs.declared.setting.Crew.{Crew}
use Rattle.lid_free.specs.declared.setting.Setting.{Setting}
use Rattle.lid_free.specs.Workers.{IsStarted, IsCrew}

-- plain stations of its capacities
pub record IsPlain (m : Setup) (pairs : List Pair) : Type 0 where
  pub many : length pairs ≡ stations_of (plan m)
  pub caps : (station : ℕ) (p : Pair) → slice_get pairs station ≡ Some p → length p.places.items ≡ room_of (plan m) station

-- the boards of a run at its start, where the keeper has all ends
pub record AreBoards (m : Setup) (b : Boards) : Type 0 where
  pub board : IsStarted m b.board
  pub of : IsOf b.keeper b.board
  pub all : ends_of b.keeper ≡ start_ends b.board
  pub plain : IsPlain m b.plain.pairs.items

-- room for so many workers, actors and stations
pub record IsRoomFor (workers actors stations : ℕ) (r : Room) : Type 0 where
  pub tallies : length r.tallies.items ≡ workers
  pub fired : length r.fired.items ≡ actors
  pub passed : length r.passed.items ≡ stations

-- the boards once the ends were given
pub record AreEndsGiven (m : Setup) (b : Boards) : Type 0 where
  pub of : IsOf b.keeper b.board
  pub none : HasNone b.keeper
  pub plain : IsPlain m b.plain.pairs.items

-- the workers of a run
pub record IsCrewOf (m : Setup) (board : Board) (workers : ℕ) (c : Crew) : Type 0 where
  pub owners : List ℕ
  pub dealt : List Actor
  pub crew : IsCrew m board workers owners dealt c.workers.items
  pub actors_many : c.actors ≡ actors_of (plan m)
  pub none : c.back.items ≡ []
  pub capacity : c.actors ≤ vec_capacity c.back

-- all that a run of a setup on so many workers needs
pub record IsSetOut (m : Setup) (workers : ℕ) (s : Setting) : Type 0 where
  pub given : AreEndsGiven m s.boards
  pub crew : IsCrewOf m s.boards.board workers s.crew
  pub room : IsRoomFor workers (actors_of (plan m)) (stations_of (plan m)) s.room
  pub rows : length m.input ≡ s.rows
