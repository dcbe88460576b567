use Rattle.std.proofs.Common.{◌-◌, ◌≤◌, length}
use Rattle.lid_strict_widths.specs.Groups.{Tile}
use Rattle.lid_strict_widths.proofs.building.groups_of.Given as goal

abbrev pub invariant-loop-start : goal.invariant-loop-start
invariant-loop-start l = (l.start ≤ length l.steps) × Tile l.steps 0 l.groups.items l.start

abbrev pub decreases-loop-start : goal.decreases-loop-start
decreases-loop-start l = length l.steps - l.start
