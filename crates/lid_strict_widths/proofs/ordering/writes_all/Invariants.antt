use Rattle.std.proofs.Common.{drop}
use Rattle.lid_strict_widths.specs.Orders.{WritesAll}
use Rattle.lid_strict_widths.proofs.ordering.writes_all.Given as goal

abbrev pub invariant-loop-step : goal.invariant-loop-step
invariant-loop-step l = WritesAll (drop l.step-index l.steps) l.last → WritesAll l.steps l.last
