use Rattle.std.proofs.Common.{◌≡◌}
use Rattle.lid_base.specs.Each.{from_each}
use Rattle.lid_gen.specs.Draws.{state_after}
use Rattle.lid_gen.specs.Designs.{buffer_at}
use Rattle.lid_gen.proofs.design.root_cells.Given as goal

abbrev pub invariant-loop-j : goal.invariant-loop-j
invariant-loop-j l = (l.cells.items ≡ from_each (buffer_at l.fn.draws.state l.shells) 0 l.j) × (l.draws.state ≡ state_after l.j l.fn.draws.state)
