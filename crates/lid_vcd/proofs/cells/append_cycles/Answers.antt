use Rattle.std.proofs.Common.{arith}
use Rattle.lid_vcd.proofs.Cycles.{cycle_step}
use Rattle.lid_vcd.proofs.cells.append_cycles.Goals as goal

pub loop-left-preserved : goal.loop-left-preserved
loop-left-preserved c =
    cycle_step c.loop-left.left c.args.values.now c.loop-left.into.items c.append_shown.new.into.items _ (let some = c.loop-left-test.true in omega arith) c.loop-left.invariant c.in_ok-append_shown.ensures
