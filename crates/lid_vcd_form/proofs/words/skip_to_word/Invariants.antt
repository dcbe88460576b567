use Rattle.std.proofs.Common.{◌≡◌, ◌+◌, ◌≤◌, [], length}
use Rattle.lid_vcd_form.specs.Words.{words_on}
use Rattle.lid_vcd_form.proofs.words.skip_to_word.Given as goal

abbrev pub invariant-loop-rest : goal.invariant-loop-rest
invariant-loop-rest l = record {
  words : words_on l.line [] l.rest ≡ words_on l.fn.line [] l.fn.bytes;
  bound : l.line + length l.rest ≤ l.fn.line + length l.fn.bytes;
  shorter : length l.rest ≤ length l.fn.bytes;
}

abbrev pub decreases-loop-rest : goal.decreases-loop-rest
decreases-loop-rest l = length l.rest
