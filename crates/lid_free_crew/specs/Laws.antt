-- Laws of rounds.
use Rattle.std.specs.Prelude.{◌≡◌, ℕ}
use Rattle.lid_base.specs.Each.{from_each}
use Rattle.lid_walk_machine.specs.Plans.{Plan, actors_of}
use Rattle.lid_walk_machine.specs.Machine.{sweeps}
use Rattle.lid_free_crew.specs.Alone.{TurnsSoFar, rounds_of}

-- rounds of all actors, in the order of their numbers, are sweeps
abbrev pub RoundsOfAllAreSweeps : Type 0
RoundsOfAllAreSweeps =
    (m : Plan) (rounds : ℕ) (r : TurnsSoFar) → (rounds_of m (from_each (λ v. v) 0 (actors_of m)) rounds r).state ≡ sweeps m r.state rounds
