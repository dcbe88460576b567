use Rattle.std.proofs.Common.{◌-◌, ◌≤◌, length}
use Rattle.lid_walk_machine.specs.Plans.{sink}
use Rattle.lid_walk_machine.specs.Setups.{plan}
use Rattle.lid_shell_laws.specs.Setups.{Setup}
use Rattle.lid_walk_machine.specs.Machine.{State}
use Rattle.lid_walk.specs.Walks.{Walks}
use Rattle.lid_walk.proofs.walk.Walk.sink.Given as goal

abbrev pub invariant-loop-actor : goal.invariant-loop-actor
invariant-loop-actor l = (m : Setup) (st : State) → Walks m st l.fn.self → l.actor ≤ sink (plan m)

abbrev pub decreases-loop-actor : goal.decreases-loop-actor
decreases-loop-actor l = length l.fn.self.actors.items - l.actor
