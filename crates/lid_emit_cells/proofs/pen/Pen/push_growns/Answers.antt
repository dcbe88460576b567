use Rattle.std.proofs.Common.{◌≡◌, ◌+◌, arith, []}
use Rattle.lid_emit_circuit.specs.Wires.{grown}
use Rattle.lid_emit_cells.proofs.Drafting.{no_wires, next_wire}
use Rattle.lid_emit_cells.proofs.pen.Pen.push_growns.Goals as goal

pub loop-i-init : goal.loop-i-init
loop-i-init c = λ q is. no_wires q c.args.self.now

pub loop-i-preserved : goal.loop-i-preserved
loop-i-preserved c = λ q is.
    let number : c.loop-i.i + 1 ≡ 1 + c.loop-i.i = omega arith in
    next_wire q c.args.self.now [] (grown c.args.s) 1 c.loop-i.i (c.loop-i.i + 1) c.loop-i.self c.push_grown.new.self number (c.loop-i.invariant q is) (c.in_ok-push_grown.ensures q is)
