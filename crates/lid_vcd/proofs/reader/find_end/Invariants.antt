use Rattle.std.proofs.Common.{◌≡◌, ◌+◌, ◌≤◌, [], length}
use Rattle.lid_vcd_form.specs.Words.{words_on}
use Rattle.lid_vcd_form.specs.Form.{start, read_words}
use Rattle.lid_vcd.proofs.reader.find_end.Given as goal

abbrev pub invariant-loop-word : goal.invariant-loop-word
invariant-loop-word l = record {
  same : read_words l.last l.place (words_on l.line [] l.rest) ≡ read_words 0 start (words_on 1 [] l.bytes);
  bound : l.line + length l.rest ≤ 1 + length l.bytes;
}

abbrev pub decreases-loop-word : goal.decreases-loop-word
decreases-loop-word l = length l.rest
