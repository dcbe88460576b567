use Rattle.lid_clock_flat.specs.Layings.{AreMoversOf}
use Rattle.lid_clock_flat.proofs.laying.movers_of.Given as goal

-- the movers before this one
abbrev pub invariant-loop-v : goal.invariant-loop-v
invariant-loop-v l = AreMoversOf l.first l.v l.actors l.movers.items
