use Rattle.std.proofs.Common.{◌≡◌, ◌++◌, map, take}
use Rattle.lid_texts.specs.RowsText.{bit_char}
use Rattle.lid_texts.proofs.writer.append_bits.Given as goal

abbrev pub invariant-loop-bit : goal.invariant-loop-bit
invariant-loop-bit l = l.into.items ≡ l.fn.into.items ++ map bit_char (take l.bit-index l.row)
