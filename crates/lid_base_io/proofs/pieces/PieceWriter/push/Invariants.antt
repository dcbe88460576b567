use Rattle.std.proofs.Common.{◌≡◌, ◌<◌, ◌≤◌, ◌++◌, length}
use Rattle.lid_base_io.specs.Calls.{CameAs, full_pieces}
use Rattle.lid_base_io.proofs.Passing.{IsPassing}
use Rattle.lid_base_io.proofs.pieces.PieceWriter.push.Given as goal

abbrev pub invariant-loop-left : goal.invariant-loop-left
invariant-loop-left g l = record {
  so_far : IsPassing (g.O.Sink.written l.fn.out) (g.O.Sink.written l.out) (l.fn.self ++ l.fn.bytes) l.self l.left;
  calls : CameAs (g.O.Sink.pieces l.fn.out) (g.O.Sink.pieces l.out) (λ calls. calls ++ full_pieces (l.self ++ l.left) ≡ full_pieces (l.fn.self ++ l.fn.bytes));
  still : g.O.Sink.faults l.out ≡ g.O.Sink.faults l.fn.out;
  short : length l.self < 65536;
  grows : g.O.Sink.faults l.fn.out ≤ g.O.Sink.faults l.out;
}

abbrev pub decreases-loop-left : goal.decreases-loop-left
decreases-loop-left g l = length l.left
