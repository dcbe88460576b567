use Rattle.std.proofs.Common.{◌≡◌, ◌==◌}
use Rattle.lid_base.specs.Each.{from_each}
use Rattle.lid_gen.specs.Draws.{state_after, drawn}
use Rattle.lid_gen.proofs.runs.draw_row.Given as goal

abbrev pub invariant-loop : goal.invariant-loop
invariant-loop l = (l.bits.items ≡ from_each (λ j. drawn l.fn.draws.state j 2 == 1) 0 l.counter) × (l.draws.state ≡ state_after l.counter l.fn.draws.state)
