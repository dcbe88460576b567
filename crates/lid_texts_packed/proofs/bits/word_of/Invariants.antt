use Rattle.std.proofs.Common.{◌≡◌, ◌≤◌, length, drop}
use Rattle.lid_texts_packed.specs.Bits.{value_of_bits}
use Rattle.lid_texts_packed.proofs.bits.word_of.Given as goal

abbrev pub invariant-loop-at : goal.invariant-loop-at
invariant-loop-at l = (l.at ≤ length l.bits) × (l.word ≡ value_of_bits (drop l.at l.bits))

abbrev pub decreases-loop-at : goal.decreases-loop-at
decreases-loop-at l = l.at
