use Rattle.std.proofs.Common.{◌≡◌, ◌==◌, ◌++◌, map, take}
use Rattle.lid_texts.proofs.line.append_word_bits.Given as goal

abbrev pub invariant-loop-b : goal.invariant-loop-b
invariant-loop-b l = l.into.items ≡ l.fn.into.items ++ map (λ b. b == 49) (take l.b-index l.word)
