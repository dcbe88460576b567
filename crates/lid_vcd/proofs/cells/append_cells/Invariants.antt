use Rattle.std.proofs.Common.{◌≡◌, ◌+◌, ◌≤◌, ◌++◌, [], length}
use Rattle.lid_vcd_form.specs.Words.{words_on}
use Rattle.lid_vcd_form.specs.Form.{start}
use Rattle.lid_vcd_form.specs.Shows.{cells_on}
use Rattle.lid_vcd.proofs.cells.append_cells.Given as goal

abbrev pub invariant-loop-word : goal.invariant-loop-word
invariant-loop-word l = record {
  same : l.into.items ++ cells_on l.place l.values (words_on l.line [] l.rest) ≡ l.fn.into.items ++ cells_on start l.fn.values (words_on 1 [] l.bytes);
  bound : l.line + length l.rest ≤ 1 + length l.bytes;
}

abbrev pub decreases-loop-word : goal.decreases-loop-word
decreases-loop-word l = length l.rest
