use Rattle.std.proofs.Common.{◌≡◌, ◌-◌, ◌^◌}
use Rattle.lid_clock.specs.Lives.{Life}
use Rattle.lid_clock.specs.Clocks.{IsFreeLife, rows_after}
use Rattle.lid_clock_flat.specs.Feeds.{Feeds}
use Rattle.lid_top_script.specs.Generated.{ones_of}
use Rattle.lid_top_gen.proofs.counting.count_run.Given as goal

-- each life of the run has come as far, and the bits of its rows are counted
abbrev pub invariant-loop-cycles : goal.invariant-loop-cycles
invariant-loop-cycles l = (life : Life) → IsFreeLife life l.fn.rows.bits → life.setup.system ≡ l.fn.placed.system → life.setup.placement ≡ l.fn.placed.placement
    → Feeds life l.cycles l.run × (l.ones ≡ ones_of (rows_after life l.cycles))

abbrev pub decreases-loop-cycles : goal.decreases-loop-cycles
decreases-loop-cycles l = 2 ^ 64 - l.cycles
