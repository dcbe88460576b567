use Rattle.std.proofs.Common.{◌≡◌, ◌≤◌, ◌++◌, length}
use Rattle.lid_base.proofs.Writes.{SoFar}
use Rattle.lid_base_io.specs.Calls.{CameAs, pieces_of}
use Rattle.lid_base_io.proofs.writing.write_all.Given as goal

abbrev pub invariant-loop-left : goal.invariant-loop-left
invariant-loop-left g l = record {
  so_far : SoFar (g.O.Sink.written l.fn.out) (g.O.Sink.written l.out) l.fn.text l.left;
  calls : CameAs (g.O.Sink.pieces l.fn.out) (g.O.Sink.pieces l.out) (λ calls. calls ++ pieces_of l.left ≡ pieces_of l.fn.text);
  still : g.O.Sink.faults l.out ≡ g.O.Sink.faults l.fn.out;
  grows : g.O.Sink.faults l.fn.out ≤ g.O.Sink.faults l.out;
}

abbrev pub decreases-loop-left : goal.decreases-loop-left
decreases-loop-left g l = length l.left
