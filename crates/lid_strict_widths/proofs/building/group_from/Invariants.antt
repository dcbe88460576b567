use Rattle.std.proofs.Common.{◌≡◌, ◌-◌, ◌<◌, ◌≤◌, ◌↔◌, IsTrue, ℕ, length, Some, slice_get}
use Rattle.lid_strict_engine.specs.declared.program.ProgramStep.{ProgramStep}
use Rattle.lid_strict_tables.specs.Wide.{IsTabled}
use Rattle.lid_strict_widths.proofs.building.group_from.Given as goal

abbrev pub invariant-loop-end : goal.invariant-loop-end
invariant-loop-end l =
    (l.start < l.end)
    × (l.end ≤ length l.steps)
    × ((i : ℕ) (s : ProgramStep) → l.start ≤ i → i < l.end → slice_get l.steps i ≡ Some s → s.width ≡ l.width)
    × ((i : ℕ) (s : ProgramStep) → l.start ≤ i → i < l.end → slice_get l.steps i ≡ Some s → IsTrue l.tabled ↔ IsTabled s)

abbrev pub decreases-loop-end : goal.decreases-loop-end
decreases-loop-end l = length l.steps - l.end
