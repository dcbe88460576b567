use Rattle.std.proofs.Common.{◌≡◌, ◌*◌}
use Rattle.lid_base.specs.Each.{from_each}
use Rattle.lid_gen.specs.Draws.{state_after}
use Rattle.lid_gen.specs.Designs.{shell_at}
use Rattle.lid_gen.proofs.design.root_insts.Given as goal

abbrev pub invariant-loop-i : goal.invariant-loop-i
invariant-loop-i l = (l.insts.items ≡ from_each (shell_at l.fn.draws.state l.shells) 0 l.i) × (l.draws.state ≡ state_after (2 * l.i) l.fn.draws.state)
