use Rattle.std.proofs.Common.{length}
use Rattle.lid_texts_runs.specs.Runs.{cell_word}
use Rattle.lid_texts_runs.proofs.Steps.{AreJoined}
use Rattle.lid_texts_runs.proofs.trace.append_cells.Given as goal

abbrev pub invariant-loop-rest : goal.invariant-loop-rest
invariant-loop-rest l = AreJoined cell_word l.fn.into.items l.cells l.into.items l.rest

abbrev pub decreases-loop-rest : goal.decreases-loop-rest
decreases-loop-rest l = length l.rest
