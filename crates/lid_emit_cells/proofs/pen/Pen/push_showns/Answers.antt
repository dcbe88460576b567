use Rattle.std.proofs.Common.{◌≡◌, ◌+◌, arith, []}
use Rattle.lid_emit_circuit.specs.Wires as circuit
use Rattle.lid_emit_cells.proofs.Drafting.{no_wires, next_wire}
use Rattle.lid_emit_cells.proofs.pen.Pen.push_showns.Goals as goal

pub loop-j-init : goal.loop-j-init
loop-j-init c = λ q is. no_wires q c.args.self.now

pub loop-j-preserved : goal.loop-j-preserved
loop-j-preserved c = λ q is.
    let number : c.loop-j.j ≡ 0 + c.loop-j.j = omega arith in
    next_wire q c.args.self.now [] circuit.shown 0 c.loop-j.j c.loop-j.j c.loop-j.self c.push_shown.new.self number (c.loop-j.invariant q is) (c.in_ok-push_shown.ensures q is)
