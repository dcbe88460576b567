use Rattle.lid_strict_engine.proofs.Tabling.{HasFrom}
use Rattle.lid_strict_engine.proofs.truth.values_of.Given as goal

abbrev pub invariant-loop-left : goal.invariant-loop-left
invariant-loop-left l = HasFrom l.cover l.values l.left

abbrev pub decreases-loop-left : goal.decreases-loop-left
decreases-loop-left l = l.left
