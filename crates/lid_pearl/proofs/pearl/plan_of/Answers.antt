use Rattle.std.proofs.Common.{Bool, true, false, List, filter, ◌∙◌, ap}
use Rattle.lid_strict_engine.specs.Rows.{bit_at}
use Rattle.lid_pearl.specs.Inside.{is_picked}
use Rattle.lid_pearl.proofs.Planning.{is_ordered, plan_split, plan_earlier}
use Rattle.lid_pearl.proofs.pearl.plan_of.Goals as goal

pub returns : goal.returns
returns c =
    let f = c.args.flat.now in
    let m = bit_at c.in_ok-marks.marks.items in
    let marked = c.in_ok-marks.ensures.marked in
    let early = c.in_ok-early in
    let late = c.in_ok-late in
    let one = early.ensures.shown ∙ ap (λ (ms : List Bool). filter (is_picked (bit_at ms) true) f.covers) c.as_slice.ensures.value in
    let two = late.ensures.shown ∙ ap (λ (ms : List Bool). filter (is_picked (bit_at ms) false) f.covers) c.as_slice-2.ensures.value in
    record {
      is = (early.ensures.is, late.ensures.is);
      ordered = is_ordered f c.requires m marked early.early.program late.late.program one two early.ensures.nets late.ensures.nets;
      split = plan_split f c.requires m marked early.early.program late.late.program one two;
      rules = plan_earlier f c.requires m marked early.early.program late.late.program one two;
    }
