use Rattle.std.proofs.Common.{◌≡◌, ◌++◌, drop}
use Rattle.std.specs.List.{flat_map}
use Rattle.lid_strict_widths.specs.Steps.{own_reads}
use Rattle.lid_strict_widths.proofs.building.reads_of.Given as goal

abbrev pub invariant-loop-step : goal.invariant-loop-step
invariant-loop-step l = l.own.items ++ flat_map (own_reads l.reads) (drop l.step-index l.steps) ≡ flat_map (own_reads l.reads) l.steps
