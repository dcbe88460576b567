use Rattle.std.proofs.Common.{◌≡◌, false, length, replicate, drop}
use Rattle.lid_check_table.specs.Tables.{names_in}
use Rattle.lid_check_table.specs.Marks.{marked_at}
use Rattle.lid_check_table.proofs.marks.mark_names.Given as goal

abbrev pub invariant-loop-number : goal.invariant-loop-number
invariant-loop-number l = marked_at l.marks.items (drop l.number-index l.numbers) ≡ marked_at (replicate (length (names_in l.table)) false) l.numbers
