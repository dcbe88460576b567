use Rattle.std.specs.Prelude.{◌≡◌, ℕ, ◌-◌}
use Rattle.std.specs.List.{sum_by}
use Rattle.lid_walk_machine.specs.Setups.{plan}
use Rattle.lid_shell_laws.specs.Setups.{Setup}
use Rattle.lid_walk_machine.specs.Machine.{State}
use Rattle.lid_walk_machine.specs.Laws.{AllRest}
use Rattle.lid_walk.specs.Walks.{Walks}
use Rattle.lid_free.specs.Sweeps.{HasMadeSweeps}
use Rattle.lid_free.proofs.ending.settle.Given as goal

abbrev pub invariant-loop-walk : goal.invariant-loop-walk
invariant-loop-walk l = (m : Setup) (st : State) → Walks m st l.fn.walk → AllRest (plan m) st → HasMadeSweeps m st l.sweeps l.walk

abbrev pub decreases-loop-walk : goal.decreases-loop-walk
decreases-loop-walk l = sum_by (λ a. a.desk.cap - a.desk.fired) l.walk.actors.items
