use Rattle.lid_size_forward.specs.ForwardParts.{AreRatiosBelow}
use Rattle.lid_size_forward.proofs.forward.each_ratio.Given as goal

abbrev pub invariant-loop-v : goal.invariant-loop-v
invariant-loop-v l = AreRatiosBelow l.graph l.stations l.v l.wants.items
