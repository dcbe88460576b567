use Rattle.std.proofs.Common.{◌≡◌, length}
use Rattle.lid_base.proofs.Writes.{SoFar}
use Rattle.lid_base.proofs.system.StdSinkSink.write.Given as goal

abbrev pub invariant-loop-rest : goal.invariant-loop-rest
invariant-loop-rest g l = record {
  so_far : SoFar (g.W.Write.contents l.initial.self-inside.writer) (g.W.Write.contents l.self-inside.writer) l.piece l.rest;
  count : l.self-inside.faults ≡ l.initial.self-inside.faults;
}

abbrev pub decreases-loop-rest : goal.decreases-loop-rest
decreases-loop-rest g l = length l.rest
