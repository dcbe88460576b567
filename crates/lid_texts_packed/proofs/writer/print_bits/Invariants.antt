use Rattle.std.proofs.Common.{◌≡◌, ℕ, ◌<◌, false, length, get_or}
use Rattle.lid_texts.specs.RowsText.{bit_char}
use Rattle.lid_texts_packed.proofs.writer.print_bits.Given as goal

abbrev pub invariant-loop-place : goal.invariant-loop-place
invariant-loop-place l =
    (length l.into ≡ length l.fn.into)
    × ((j : ℕ) → j < l.place → get_or l.into j 0 ≡ bit_char (get_or l.row j false))
