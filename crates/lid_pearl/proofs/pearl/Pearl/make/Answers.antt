use Rattle.std.proofs.Common.{◌++◌, refl, sym, ◌∙◌, ap, subst}
use Rattle.lid_base.proofs.Results.{if_ok}
use Rattle.lid_design.specs.declared.Flat.{Flat}
use Rattle.lid_design.specs.Flat.{IsFlat}
use Rattle.lid_strict_engine.specs.Programs.{program_covers}
use Rattle.lid_pearl.specs.Pearls.{IsReordered}
use Rattle.lid_pearl.proofs.Sharing.{ordered_by_equals}
use Rattle.lid_pearl.proofs.Reordering.{reordered_is, reordered_flat, flat_of}
use Rattle.lid_pearl.proofs.pearl.Pearl.make.Goals as goal

pub begin-requires : goal.begin-requires
begin-requires c =
    let shape = c.in_ok-shape.shape in
    let one = c.in_ok-shape.ensures in
    let two = c.in_ok-plan.ensures in
    record {
      latches = one.sides;
      early_is = two.is.0;
      late_is = two.is.1;
      ordered = ordered_by_equals _ _ _ shape.nets _ _ shape.ins.items shape.outs.items _ shape.latches.all.items one.nets (one.ins ∙ c.as_slice.ensures) (one.outs ∙ c.as_slice-2.ensures) (one.latches ∙ c.as_slice-3.ensures) two.ordered;
    }

pub returns-clause-rules : goal.returns-clause-rules
returns-clause-rules c =
    let f = c.args.flat.now in
    let shape = c.in_ok-shape.shape in
    let plan = c.in_ok-plan.plan in
    let is = c.in_ok-shape.ensures in
    let first = program_covers plan.early.program in
    let second = program_covers plan.late.program in
    let g : Flat = flat_of shape.nets shape.ins.items shape.outs.items shape.latches.all.items (first ++ second) in
    let re : IsReordered f g = record { nets = is.nets; ins = is.ins ∙ c.as_slice.ensures; outs = is.outs ∙ c.as_slice-2.ensures; latches = is.latches ∙ c.as_slice-3.ensures; covers = (first, second, refl, c.in_ok-plan.ensures.split) } in
    let rules : IsFlat g = subst IsFlat (sym (reordered_is f g re)) (reordered_flat f first second c.in_ok-plan.ensures.split c.requires c.in_ok-plan.ensures.rules) in
    if_ok c.begin.result (λ pearl same. subst IsFlat (sym same) rules) c.begin.ensures.flat
