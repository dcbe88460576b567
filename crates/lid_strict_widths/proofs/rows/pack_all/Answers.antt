use Rattle.std.proofs.Common.{◌<◌, map, drop, arith}
use Rattle.lid_cover.specs.Masks.{packed}
use Rattle.lid_strict_widths.proofs.Going.{from_bool_le}
use Rattle.lid_strict_engine.specs.Rows.{bit_at}
use Rattle.lid_strict_engine.proofs.Tabling.{later_below}
use Rattle.lid_strict_widths.proofs.rows.pack_all.Goals as goal

pub overflow_mul-packed : goal.overflow_mul-packed
overflow_mul-packed c =
    let small : packed (map (bit_at c.args.bits.now) (drop c.loop-left.left c.args.nets.now)) < 9223372036854775808 = later_below c.args.bits.now c.args.nets.now c.loop-left.left 63 c.requires.few (omega (arith, c.loop-left-test.true)) in
    let same = c.loop-left.invariant.1 in
    omega arith

pub overflow_add-packed : goal.overflow_add-packed
overflow_add-packed c =
    let small : packed (map (bit_at c.args.bits.now) (drop c.loop-left.left c.args.nets.now)) < 9223372036854775808 = later_below c.args.bits.now c.args.nets.now c.loop-left.left 63 c.requires.few (omega (arith, c.loop-left-test.true)) in
    let same = c.loop-left.invariant.1 in
    omega (arith, small, same, c.from.ensures, from_bool_le)
