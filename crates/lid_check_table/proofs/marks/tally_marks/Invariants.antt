use Rattle.std.proofs.Common.{◌≡◌, false, length, replicate, drop}
use Rattle.lid_check_table.specs.Tables.{names_in}
use Rattle.lid_check_table.specs.Marks.{marked_at, again_at_all}
use Rattle.lid_check_table.proofs.marks.tally_marks.Given as goal

abbrev pub invariant-loop-number : goal.invariant-loop-number
invariant-loop-number l =
    (marked_at l.all.items (drop l.number-index l.numbers) ≡ marked_at (replicate (length (names_in l.table)) false) l.numbers)
    × (again_at_all l.all.items l.twice.items (drop l.number-index l.numbers) ≡ again_at_all (replicate (length (names_in l.table)) false) (replicate (length (names_in l.table)) false) l.numbers)
