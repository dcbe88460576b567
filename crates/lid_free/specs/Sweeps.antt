-- Serves the bodies: the sweeps after the parallel phase.
use Rattle.std.specs.Prelude.{◌≡◌, ℕ, ◌<◌, ◌≤◌}
use Rattle.lid_walk_machine.specs.Setups.{plan}
use Rattle.lid_shell_laws.specs.Setups.{Setup}
use Rattle.lid_walk_machine.specs.Machine.{State, IsSettled, sweeps}
use Rattle.lid_walk_machine.specs.Laws.{AllRest}
use Rattle.lid_walk.specs.declared.walk.Walk.{Walk}
use Rattle.lid_walk.specs.Walks.{Walks, firings_between}
use Rattle.lid_free.specs.declared.ending.Sweeps.{Sweeps}

-- so many sweeps were made, none of them from a settled state, and each had a firing
pub record HasMadeSweeps (m : Setup) (st : State) (s : Sweeps) (w : Walk) : Type 0 where
  pub walks : Walks m (sweeps (plan m) st s.count) w
  pub rest : AllRest (plan m) (sweeps (plan m) st s.count)
  pub fired_are : s.fired ≡ firings_between (plan m) st (sweeps (plan m) st s.count)
  pub fires : s.count ≤ s.fired
  pub not_before : (j : ℕ) → j < s.count → IsSettled (plan m) (sweeps (plan m) st j) → ⊥

-- until the state was settled
pub record HasSettled (m : Setup) (st : State) (s : Sweeps) (w : Walk) : Type 0 where
  pub swept : HasMadeSweeps m st s w
  pub settled : IsSettled (plan m) (sweeps (plan m) st s.count)
