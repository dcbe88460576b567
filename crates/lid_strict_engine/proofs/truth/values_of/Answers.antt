use Rattle.std.proofs.Common.{◌≡◌, ◌<◌, ◌≤◌, ◌%◌, ◌^◌, ◌-◌, if◌then◌else◌, Bool, ◌∙◌, ap, arith}
use Rattle.std.proofs.Math.Nat.{mod-eq_of_lt}
use Rattle.lid_strict_engine.specs.Truth.{unpacked}
use Rattle.lid_strict_engine.proofs.Tabling.{has_none, small_from, has_more, has_all, length_unpacked, packed_unpacked, size_is}
use Rattle.lid_strict_engine.proofs.truth.values_of.Goals as goal

pub loop-left-init : goal.loop-left-init
loop-left-init c = has_none c.args.cover.now _ (size_is c.args.cover.now.inputs c.requires.few)

pub overflow_mul-values : goal.overflow_mul-values
overflow_mul-values c =
    let small = small_from c.args.cover.now c.loop-left.values c.loop-left.left c.requires.few c.loop-left.invariant c.loop-left-test.true in
    omega arith

pub overflow_add-values : goal.overflow_add-values
overflow_add-values c =
    let small = small_from c.args.cover.now c.loop-left.values c.loop-left.left c.requires.few c.loop-left.invariant c.loop-left-test.true in
    let one = c.value_of.ensures.small in
    omega arith

pub loop-left-preserved : goal.loop-left-preserved
loop-left-preserved c =
    let cover = c.args.cover.now in
    let i = c.loop-left.left - 1 in
    let within : c.loop-left.left ≤ 2 ^ cover.inputs = c.loop-left.invariant.0 in
    let some = c.loop-left-test.true in
    let below : i < 2 ^ cover.inputs = omega arith in
    let same : i % 2 ^ cover.inputs ≡ i = mod-eq_of_lt below in
    let value = c.eval.ensures (unpacked cover.inputs i) (length_unpacked cover.inputs i) (packed_unpacked cover.inputs i ∙ same) in
    has_more cover c.loop-left.values c.loop-left.left c.value_of.result c.loop-left.invariant c.loop-left-test.true (c.value_of.ensures.value ∙ ap (λ (b : Bool). if b then 1 else 0) value)

pub returns : goal.returns
returns c = has_all c.args.cover.now c.loop-left.values c.loop-left.left c.loop-left.invariant (omega arith)
