use Rattle.std.proofs.Common.{◌≡◌, false, replicate}
use Rattle.lid_clock.specs.Clocks.{rows_in}
use Rattle.lid_clock.proofs.clocked.room_for.Given as goal

abbrev pub invariant-loop : goal.invariant-loop
invariant-loop l = rows_in l.outs ≡ replicate l.counter (replicate l.width false)
