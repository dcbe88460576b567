use Rattle.std.proofs.Common.{◌≡◌, ◌≤◌, drop}
use Rattle.lid_base_io.specs.Telling.{steps_text}
use Rattle.lid_base.proofs.Writes.{SoFar}
use Rattle.lid_base_io.proofs.Joined.{JoinedSoFar}
use Rattle.lid_base_io.proofs.paths.tell_steps.Given as goal

abbrev pub invariant-loop-step : goal.invariant-loop-step
invariant-loop-step g l = record {
  so_far : SoFar (g.E.Sink.written l.fn.err) (g.E.Sink.written l.err) (steps_text l.steps) (steps_text (drop l.step-index l.steps));
  pieces : JoinedSoFar (g.E.Sink.pieces l.fn.err) (g.E.Sink.pieces l.err) (steps_text l.steps) (steps_text (drop l.step-index l.steps));
  still : g.E.Sink.faults l.err ≡ g.E.Sink.faults l.fn.err;
  grows : g.E.Sink.faults l.fn.err ≤ g.E.Sink.faults l.err;
}
