use Rattle.std.proofs.Common.{◌≡◌, ◌++◌, take}
use Rattle.lid_texts_feed.proofs.packing.move_rows.Given as goal

abbrev pub invariant-loop-row : goal.invariant-loop-row
invariant-loop-row l = l.packed ≡ record { width = l.fn.packed.width; rows = l.fn.packed.rows ++ take l.row-index l.row-items }
