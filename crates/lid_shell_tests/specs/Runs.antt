-- Walks that go on.
use Rattle.std.specs.Prelude.{ℕ, ◌≤◌}
use Rattle.lid_walk_machine.specs.Plans.{actors_of}
use Rattle.lid_walk_machine.specs.Setups.{plan}
use Rattle.lid_shell_laws.specs.Setups.{Setup}
use Rattle.lid_walk_machine.specs.Machine.{State}
use Rattle.lid_walk.specs.declared.walk.Walk.{Walk}
use Rattle.lid_walk.specs.Walks.{Walks}

-- a walk that has so many actors
abbrev pub HasActors : Walk → ℕ → Type 0
HasActors w many = (m : Setup) × (st : State) × Walks m st w × (many ≤ actors_of (plan m))
