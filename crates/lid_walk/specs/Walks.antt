-- Walks: all actors of a setup over one board, in a state of the interleaving machine.
use Rattle.std.specs.Prelude.{◌≡◌, ℕ, ◌-◌, ◌<◌, List, length}
use Rattle.std.specs.List.{sum_by}
use Rattle.lid_base.specs.Each.{from_each}
use Rattle.lid_station.specs.Plain.{plain_ends, PlainStands}
use Rattle.lid_station.specs.declared.pair.Pair.{Pair}
use Rattle.lid_walk_machine.specs.Plans.{Plan, actors_of, stations_of, stream}
use Rattle.lid_walk_machine.specs.Setups.{plan}
use Rattle.lid_shell_laws.specs.Setups.{Setup, IsSetup}
use Rattle.lid_walk_machine.specs.Machine.{State}
use Rattle.lid_walk_machine.specs.Laws.{IsSound, AllRest}
use Rattle.lid_shell.specs.Boards.{Agrees}
use Rattle.lid_walk.specs.Actors.{AreActors}
use Rattle.lid_walk.specs.declared.walk.Walk.{Walk}

-- a board has all stations of a setup, agrees with each actor, and holds tokens of the streams
pub record IsBoard (m : Setup) (st : State) (pairs : List Pair) : Type 0 where
  pub many : length pairs ≡ stations_of (plan m)
  pub agrees : (v : ℕ) → v < actors_of (plan m) → Agrees m v (st v) (plain_ends pairs)
  pub streams : PlainStands pairs (stream (plan m))

-- a walk of a setup, in a state that keeps the rules of the machine
pub record Walks (m : Setup) (st : State) (w : Walk) : Type 0 where
  pub rules : IsSetup m
  pub sound : IsSound (plan m) st
  pub actors : AreActors m st w.actors.items
  pub board : IsBoard m st w.board.pairs.items

-- a walk of some setup, in some state
abbrev pub IsSetupWalk : Walk → Type 0
IsSetupWalk w = (m : Setup) × (st : State) × Walks m st w

-- and one that has an actor of this number
abbrev pub HasActor : Walk → ℕ → Type 0
HasActor w v = (m : Setup) × (st : State) × Walks m st w × (v < actors_of (plan m))

-- and where that is at rest
abbrev pub HasActorAtRest : Walk → ℕ → Type 0
HasActorAtRest w v = (m : Setup) × (st : State) × Walks m st w × (v < actors_of (plan m)) × ((st v).position ≡ 0)

-- and one in which all actors are at rest
abbrev pub IsAtRest : Walk → Type 0
IsAtRest w = (m : Setup) × (st : State) × Walks m st w × AllRest (plan m) st

-- how many firings lie between two states
abbrev pub firings_between : Plan → State → State → ℕ
firings_between m old new = sum_by (λ v. (new v).fired - (old v).fired) (from_each (λ v. v) 0 (actors_of m))
