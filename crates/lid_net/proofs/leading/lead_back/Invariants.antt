use Rattle.lid_net.specs.Steps.{AreLedSoFar}
use Rattle.lid_net.proofs.leading.lead_back.Given as goal

abbrev pub invariant-loop-number : goal.invariant-loop-number
invariant-loop-number l = AreLedSoFar l.design l.drivers l.order l.number-index l.fn.origins l.origins
