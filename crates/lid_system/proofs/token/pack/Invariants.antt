use Rattle.std.proofs.Common.{◌≡◌, ◌≤◌, length, map, drop}
use Rattle.lid_cover.specs.Masks.{packed}
use Rattle.lid_strict_engine.specs.Rows.{bit_at}
use Rattle.lid_system.proofs.token.pack.Given as goal

abbrev pub invariant-loop-left : goal.invariant-loop-left
invariant-loop-left l = (l.left ≤ length l.ports) × (l.token ≡ packed (map (bit_at l.bits) (drop l.left l.ports)))

abbrev pub decreases-loop-left : goal.decreases-loop-left
decreases-loop-left l = l.left
