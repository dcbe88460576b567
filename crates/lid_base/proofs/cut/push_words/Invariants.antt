use Rattle.std.proofs.Common.{length}
use Rattle.lid_base.specs.Lines.{words_in, words_of}
use Rattle.lid_base.proofs.Lists.{IsPartway}
use Rattle.lid_base.proofs.cut.push_words.Given as goal

abbrev pub invariant-loop-word : goal.invariant-loop-word
invariant-loop-word l = IsPartway l.fn.words.items l.words.items (words_of l.fn.line) (words_in l.rest)

abbrev pub decreases-loop-word : goal.decreases-loop-word
decreases-loop-word l = length l.rest
