use Rattle.std.proofs.Common.{◌≡◌, ◌++◌, ◌<◌, ℕ, false, List, length, Some, slice_get, slice_index, slice_index_or, ◌∙◌, subst, arith}
use Rattle.std.proofs.lemmas.List.{take_all, length-set}
use Rattle.std.proofs.lemmas.Option.{slice_get-get_or}
use Rattle.lid_base.proofs.Lists.{all_at}
use Rattle.lid_strict_engine.specs.Rows.{AreRightAt}
use Rattle.lid_strict_engine.proofs.Settling.{put_next}
use Rattle.lid_strict_engine.proofs.row.put_bits.Goals as goal

pub loop-i-preserved : goal.loop-i-preserved
loop-i-preserved c =
    let nets = c.args.nets.now in
    let values = c.args.values.now in
    let i = c.loop-i.i in
    let k = slice_index nets i in
    let v = slice_index_or values i false in
    let long = c.requires.long in
    let inside : i < length values = omega arith in
    let here : slice_get nets i ≡ Some k = slice_get-get_or nets i 0 c.loop-i-test.true in
    let there : slice_get values i ≡ Some v = slice_get-get_or values i false inside in
    let below : k < length c.args.bits.now = all_at (λ (k : ℕ). k < length c.args.bits.now) nets i k c.requires.below here in
    let kept : length c.loop-i.bits ≡ length c.args.bits.now = c.loop-i.invariant.0 in
    let room : k < length c.loop-i.bits = omega arith in (
      length-set c.loop-i.bits k v ∙ kept,
      (λ f known given agrees. put_next nets values c.loop-i.bits i k v here there room f known given (c.loop-i.invariant.1 f known given agrees)),
    )

pub returns-clause-bits : goal.returns-clause-bits
returns-clause-bits c f known given agrees =
    subst (λ (ns : List ℕ). AreRightAt f (ns ++ known) c.loop-i.bits) (take_all c.loop-i.i c.args.nets.now c.loop-i-test.false)
    (c.loop-i.invariant.1 f known given agrees)
