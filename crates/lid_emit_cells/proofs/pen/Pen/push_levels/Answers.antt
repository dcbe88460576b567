use Rattle.std.proofs.Common.{◌≡◌, ◌+◌, arith, []}
use Rattle.lid_emit_circuit.specs.Wires.{level}
use Rattle.lid_emit_cells.specs.Drafts.{name_on}
use Rattle.lid_emit_cells.proofs.Drafting.{one_wire, next_wire}
use Rattle.lid_emit_cells.proofs.Sources.{lowest}
use Rattle.lid_emit_cells.proofs.pen.Pen.push_levels.Goals as goal

pub loop-i-init : goal.loop-i-init
loop-i-init c = λ q is. one_wire q c.args.self.now c.push_constant.new.self (level c.args.s 0) _ c.in_ok-push_constant.ensures (lowest q (name_on c.args.self.now) c.args.s c.args.station.now is)

pub loop-i-preserved : goal.loop-i-preserved
loop-i-preserved c = λ q is.
    let number : c.loop-i.i + 1 ≡ 0 + (c.loop-i.i + 1) = omega arith in
    next_wire q c.args.self.now [] (level c.args.s) 0 (c.loop-i.i + 1) (c.loop-i.i + 1) c.loop-i.self c.push_level.new.self number (c.loop-i.invariant q is) (c.in_ok-push_level.ensures q is)
