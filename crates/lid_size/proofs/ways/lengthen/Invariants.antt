use Rattle.lid_size.specs.Choices.{followed}
use Rattle.lid_size.specs.Testing.{AreWays}
use Rattle.lid_size.proofs.ways.lengthen.Given as goal

abbrev pub invariant-loop-k : goal.invariant-loop-k
invariant-loop-k l = AreWays l.graph l.count (followed l.count l.done 16) l.ways
