use Rattle.std.proofs.Common.{◌≡◌, take}
use Rattle.lid_texts_packed.proofs.rows.PackedRows.unpack.Given as goal

abbrev pub invariant-loop-row : goal.invariant-loop-row
invariant-loop-row l = l.rows.items ≡ take l.row l.fn.self.rows
