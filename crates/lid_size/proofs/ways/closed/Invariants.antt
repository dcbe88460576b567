use Rattle.lid_size.specs.Choices.{followed}
use Rattle.lid_size.specs.Testing.{IsWayTo}
use Rattle.lid_size.proofs.ways.closed.Given as goal

abbrev pub invariant-loop-k : goal.invariant-loop-k
invariant-loop-k l = IsWayTo l.graph l.count (followed l.count l.done l.next) l.at l.way
