use Rattle.std.proofs.Common.{◌≡◌, ◌++◌, ℕ}
use Rattle.lid_base.specs.Each.{from_each}
use Rattle.lid_clock.specs.Lives.{Life, shown_after}
use Rattle.lid_top_clock.specs.Courses.{RanBy}
use Rattle.lid_top_clock.proofs.steps.push_cells.Given as goal

abbrev pub invariant-loop-station : goal.invariant-loop-station
invariant-loop-station l = (life : Life) (k g : ℕ) → RanBy life k g l.stream → l.cells.items ≡ l.fn.cells.items ++ from_each (shown_after life k) 0 l.station
