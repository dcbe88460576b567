use Rattle.lid_rate.specs.Rates.{AreParts}
use Rattle.lid_rate.proofs.finding.all_parts.Given as goal

abbrev pub invariant-loop-v : goal.invariant-loop-v
invariant-loop-v l = AreParts l.graph l.least l.v l.parts.items
