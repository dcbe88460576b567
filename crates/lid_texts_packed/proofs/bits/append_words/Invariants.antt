use Rattle.std.proofs.Common.{◌≡◌, ◌++◌}
use Rattle.lid_base.specs.Each.{from_each}
use Rattle.lid_texts_packed.specs.Bits.{word_in}
use Rattle.lid_texts_packed.proofs.bits.append_words.Given as goal

abbrev pub invariant-loop-k : goal.invariant-loop-k
invariant-loop-k l = l.words.items ≡ l.fn.words.items ++ from_each (word_in l.row) 0 l.k
