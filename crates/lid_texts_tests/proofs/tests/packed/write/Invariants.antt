use Rattle.std.proofs.Common.{◌≡◌, length}
use Rattle.lid_texts_tests.proofs.tests.packed.write.Given as goal

abbrev pub invariant-loop-t : goal.invariant-loop-t
invariant-loop-t l = (length l.row.items ≡ l.packed.width) × (length l.printer.chars.items ≡ l.packed.width)
