use Rattle.std.proofs.Common.{arith}
use Rattle.lid_texts_packed.proofs.Words.{rest_below}
use Rattle.lid_texts_packed.proofs.bits.word_of.Goals as goal

pub overflow_mul-word : goal.overflow_mul-word
overflow_mul-word c =
    let below = rest_below c.args.bits.now c.loop-at.at c.requires c.loop-at-test.true in
    omega (arith, below, c.loop-at.invariant)

pub overflow_add-word : goal.overflow_add-word
overflow_add-word c =
    let below = rest_below c.args.bits.now c.loop-at.at c.requires c.loop-at-test.true in
    grind (arith, below, c.loop-at.invariant, c.from.ensures)
