use Rattle.std.proofs.Common.{◌≤◌, ◌-◌}
use Rattle.lid_clock.specs.Lives.{Life}
use Rattle.lid_top_held.specs.Traces.{HasTraced, TraceBegins}
use Rattle.lid_top_held.proofs.dumping.trace_run.Given as goal

-- each life of the run at the start is one of the run now, with the cells of the cycles that were made
abbrev pub invariant-loop-made : goal.invariant-loop-made
invariant-loop-made l = record {
  few : l.made ≤ l.fn.cycles;
  traced : (life : Life) → TraceBegins life l.fn.stations l.fn.run → HasTraced life l.made l.run l.cells.items;
}

abbrev pub decreases-loop-made : goal.decreases-loop-made
decreases-loop-made l = l.fn.cycles - l.made
