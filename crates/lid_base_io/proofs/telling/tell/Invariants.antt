use Rattle.std.proofs.Common.{◌≡◌, ◌≤◌, map}
use Rattle.lid_base_io.specs.Telling.{fault_line, spelled}
use Rattle.lid_base_io.proofs.FaultLines.{line_from}
use Rattle.lid_base.proofs.Writes.{SoFar}
use Rattle.lid_base_io.proofs.Joined.{JoinedSoFar}
use Rattle.lid_base_io.proofs.telling.tell.Given as goal

abbrev pub invariant-loop-word : goal.invariant-loop-word
invariant-loop-word g l = record {
  so_far : SoFar (g.E.Sink.written l.fn.err) (g.E.Sink.written l.err) (fault_line (map spelled l.words)) (line_from l.words l.word-index);
  pieces : JoinedSoFar (g.E.Sink.pieces l.fn.err) (g.E.Sink.pieces l.err) (fault_line (map spelled l.words)) (line_from l.words l.word-index);
  still : g.E.Sink.faults l.err ≡ g.E.Sink.faults l.fn.err;
  grows : g.E.Sink.faults l.fn.err ≤ g.E.Sink.faults l.err;
}
