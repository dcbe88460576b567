use Rattle.std.proofs.Common.{refl}
use Rattle.lid_pearl.proofs.Sharing.{same_covers, held_by_same, flat_by_same}
use Rattle.lid_pearl.proofs.pearl.is_same_layout.Goals as goal

pub returns : goal.returns
returns c same =
    let l = c.args.layout.now in
    let m = c.args.other.now in
    let shape = c.if-not-is_same_shape.ensures in
    let one = c.if-not-is_same_program.ensures in
    let two = c.is_same_program-2.ensures in
    let early = same_covers l.plan.early.program m.plan.early.program (one.reads refl) (one.cubes refl) (one.steps refl) in
    let late = same_covers l.plan.late.program m.plan.late.program (two.reads same) (two.cubes same) (two.steps same) in
    (flat_by_same l m (shape.nets refl) (shape.ins refl) (shape.outs refl) (shape.latches refl) early late, held_by_same l m (shape.nets refl) (shape.latches refl) early)
