use Rattle.std.proofs.Common.{◌≡◌, ◌++◌, ℕ}
use Rattle.lid_base.specs.Each.{from_each}
use Rattle.lid_clock.specs.Lives.{Life, shown_after}
use Rattle.lid_clock_flat.specs.Feeds.{Feeds}
use Rattle.lid_top_held.proofs.dumping.push_cells.Given as goal

abbrev pub invariant-loop-station : goal.invariant-loop-station
invariant-loop-station l = (life : Life) (k : ℕ) → Feeds life k l.run → l.cells.items ≡ l.fn.cells.items ++ from_each (shown_after life k) 0 l.station
