use Rattle.std.proofs.Common.{arith}
use Rattle.lid_emit_cells.proofs.Shells.{wires_next}
use Rattle.lid_emit_cells.proofs.shell.wires_at.Goals as goal

pub loop-net-preserved : goal.loop-net-preserved
loop-net-preserved c = λ wire are. wires_next wire c.loop-net.found.items c.push.new.self.items c.args.nets.now c.loop-net.net-index c.wire_at.result (omega (arith, c.loop-net-test.true)) (are _ c.wire_at.result c.wire_at.ensures) c.in_ok-push.ensures.items (c.loop-net.invariant wire are)
