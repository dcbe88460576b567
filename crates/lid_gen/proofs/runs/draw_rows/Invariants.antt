use Rattle.std.proofs.Common.{◌≡◌, ◌*◌}
use Rattle.lid_gen.specs.Draws.{state_after}
use Rattle.lid_gen.specs.Runs.{rows_from}
use Rattle.lid_gen.proofs.runs.draw_rows.Given as goal

abbrev pub invariant-loop : goal.invariant-loop
invariant-loop l = (l.bits.items ≡ rows_from l.fn.draws.state l.counter) × (l.draws.state ≡ state_after (4 * l.counter) l.fn.draws.state)
