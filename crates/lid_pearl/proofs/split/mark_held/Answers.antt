use Rattle.std.proofs.Common.{◌≡◌, ◌<◌, true, length, slice_index_or, ◌∙◌, arith}
use Rattle.std.proofs.lemmas.List.{length-set}
use Rattle.lid_design.specs.Flat.{latch_out}
use Rattle.lid_strict_engine.proofs.Settling.{no_latch, latch_at}
use Rattle.lid_pearl.specs.Inside.{held}
use Rattle.lid_pearl.proofs.Marking.{latch_below, held_next, held_alone}
use Rattle.lid_pearl.proofs.split.mark_held.Goals as goal

pub bounds-marks-latches : goal.bounds-marks-latches
bounds-marks-latches c =
    let below = latch_below (length c.args.marks.now) c.args.latches.now c.loop-i.i c.loop-i-test.true c.requires.below in
    let kept : length c.loop-i.marks ≡ length c.args.marks.now = c.loop-i.invariant.0 in
    omega arith

pub loop-i-preserved : goal.loop-i-preserved
loop-i-preserved c =
    let latches = c.args.latches.now in
    let i = c.loop-i.i in
    let k = (slice_index_or latches i no_latch).out in
    let here = latch_at latch_out latches i c.loop-i-test.true in
    let below = latch_below (length c.args.marks.now) latches i c.loop-i-test.true c.requires.below in
    let kept : length c.loop-i.marks ≡ length c.args.marks.now = c.loop-i.invariant.0 in
    let room : k < length c.loop-i.marks = omega arith in (
      length-set c.loop-i.marks k true ∙ kept,
      held_next (held latches) c.loop-i.marks i k here room c.loop-i.invariant.1,
      held_alone (held latches) c.loop-i.marks c.args.marks.now i k here c.loop-i.invariant.2,
    )
