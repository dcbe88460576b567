use Rattle.std.proofs.Common.{◌≡◌, ◌≤◌, length, map, drop}
use Rattle.lid_cover.specs.Masks.{packed}
use Rattle.lid_strict_engine.specs.Rows.{bit_at}
use Rattle.lid_strict_widths.proofs.rows.pack_all.Given as goal

abbrev pub invariant-loop-left : goal.invariant-loop-left
invariant-loop-left l = (l.left ≤ length l.nets) × (l.packed ≡ packed (map (bit_at l.bits) (drop l.left l.nets)))

abbrev pub decreases-loop-left : goal.decreases-loop-left
decreases-loop-left l = l.left
