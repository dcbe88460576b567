use Rattle.std.proofs.Common.{◌≡◌, ◌+◌, length, ap, arith}
use Rattle.lid_emit_circuit.specs.Lists.{shell_wires}
use Rattle.lid_emit_cells.proofs.Drafting.{no_wires, next_wires}
use Rattle.lid_emit_cells.proofs.Alls.{item_there}
use Rattle.lid_emit_cells.proofs.pen.Pen.push_shells.Goals as goal

pub loop-i-init : goal.loop-i-init
loop-i-init c = λ q is. no_wires q c.args.self.now

pub push_shell-requires : goal.push_shell-requires
push_shell-requires c = c.requires.shells c.loop-i.i c.index-as_slice-i.result (item_there c.args.all.now.shells c.as_slice.result.now c.loop-i.i c.index-as_slice-i.result c.as_slice.ensures (omega (arith, c.loop-i-test.true, c.len-i-end.ensures, ap length c.as_slice.ensures)) c.index-as_slice-i.is)

pub loop-i-preserved : goal.loop-i-preserved
loop-i-preserved c = λ q is.
    let number : c.loop-i.i + 1 ≡ 1 + c.loop-i.i = omega arith in
    next_wires q c.args.self.now (shell_wires q) 1 c.loop-i.i (c.loop-i.i + 1) c.loop-i.self c.push_shell.new.self number (c.loop-i.invariant q is)
    (c.in_ok-push_shell.ensures q (is.each_shell c.loop-i.i c.index-as_slice-i.result (item_there c.args.all.now.shells c.as_slice.result.now c.loop-i.i c.index-as_slice-i.result c.as_slice.ensures (omega (arith, c.loop-i-test.true, c.len-i-end.ensures, ap length c.as_slice.ensures)) c.index-as_slice-i.is)))
