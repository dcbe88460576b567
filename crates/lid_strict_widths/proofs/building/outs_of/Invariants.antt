use Rattle.std.proofs.Common.{◌≡◌, ◌++◌, map, drop}
use Rattle.lid_strict_widths.specs.Steps.{step_out}
use Rattle.lid_strict_widths.proofs.building.outs_of.Given as goal

abbrev pub invariant-loop-step : goal.invariant-loop-step
invariant-loop-step l = l.outs.items ++ map step_out (drop l.step-index l.steps) ≡ map step_out l.steps
