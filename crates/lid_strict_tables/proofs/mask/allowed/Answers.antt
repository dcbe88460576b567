use Rattle.std.proofs.Common.{◌/◌, ◌^◌, not, sym, ◌∙◌, ap, arith}
use Rattle.lid_strict_tables.proofs.Masks.{set_ones, set_not, allows_all, allows_zero}
use Rattle.lid_strict_tables.proofs.mask.allowed.Goals as goal

pub returns-then-cube-input-ne1 : goal.returns-then-cube-input-ne1
returns-then-cube-input-ne1 c i h =
    let j = c.args.input in
    set_ones i h ∙ sym (allows_all (c.args.cube.care / 2 ^ j) (c.args.cube.value / 2 ^ j) (i / 2 ^ j) c.if-cube-input-ne1.true)

pub returns-else-cube-input-eq1 : goal.returns-else-cube-input-eq1
returns-else-cube-input-eq1 c i h =
    let j = c.args.input in
    set_not c.lane-else-cube-input-eq1.result i (omega arith) h
    ∙ ap not (c.lane-else-cube-input-eq1.ensures i h)
    ∙ sym (allows_zero (c.args.cube.care / 2 ^ j) (c.args.cube.value / 2 ^ j) (i / 2 ^ j) c.if-cube-input-ne1.false c.if-cube-input-eq1.false)
