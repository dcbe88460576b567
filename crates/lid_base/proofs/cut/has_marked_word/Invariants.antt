use Rattle.std.proofs.Common.{◌≡◌, length}
use Rattle.std.specs.List.{list_any}
use Rattle.lid_base.specs.Lines.{ends_in_mark, words_in}
use Rattle.lid_base.proofs.cut.has_marked_word.Given as goal

abbrev pub invariant-loop-word : goal.invariant-loop-word
invariant-loop-word l = list_any ends_in_mark (words_in l.rest) ≡ list_any ends_in_mark (words_in l.fn.bytes)

abbrev pub decreases-loop-word : goal.decreases-loop-word
decreases-loop-word l = length l.rest
