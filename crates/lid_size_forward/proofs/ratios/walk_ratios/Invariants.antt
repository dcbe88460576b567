use Rattle.lid_size_forward.specs.ForwardWalks.{AreWalksBelow}
use Rattle.lid_size_forward.proofs.ratios.walk_ratios.Given as goal

abbrev pub invariant-loop-v : goal.invariant-loop-v
invariant-loop-v l = AreWalksBelow l.graph l.stations l.least l.v l.wants.items
