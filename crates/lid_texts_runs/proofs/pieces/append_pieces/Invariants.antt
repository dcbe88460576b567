use Rattle.std.proofs.Common.{length}
use Rattle.lid_texts_runs.specs.Pieces.{spelled}
use Rattle.lid_texts_runs.proofs.Steps.{AreJoined}
use Rattle.lid_texts_runs.proofs.pieces.append_pieces.Given as goal

abbrev pub invariant-loop-rest : goal.invariant-loop-rest
invariant-loop-rest l = AreJoined spelled l.fn.into.items l.pieces l.into.items l.rest

abbrev pub decreases-loop-rest : goal.decreases-loop-rest
decreases-loop-rest l = length l.rest
