use Rattle.lid_clock.specs.Ran.{lent}
use Rattle.lid_clock.specs.Starts.{AreUnjoined}
use Rattle.lid_clock.proofs.building.new_actors.Given as goal

abbrev pub invariant-loop-v : goal.invariant-loop-v
invariant-loop-v l = AreUnjoined l.placed.system l.rows (lent l.first) l.v l.actors.items
