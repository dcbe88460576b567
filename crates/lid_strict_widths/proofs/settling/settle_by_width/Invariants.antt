use Rattle.std.proofs.Common.{◌≡◌, ℕ, length, drop}
use Rattle.lid_strict_widths.specs.Steps.{reads_before}
use Rattle.lid_strict_widths.specs.Groups.{Tile, run_steps, run_covers, RightUpTo}
use Rattle.lid_strict_widths.proofs.settling.settle_by_width.Given as goal

abbrev pub invariant-loop-group : goal.invariant-loop-group
invariant-loop-group l =
    (length l.bits ≡ length l.fn.bits)
    × (to : ℕ)
    × (l.at ≡ reads_before (run_steps l.x) to)
    × Tile (run_steps l.x) to (drop l.group-index l.x.groups.items) (length (run_steps l.x))
    × RightUpTo (run_covers l.x) 0 l.fn.bits to l.bits
