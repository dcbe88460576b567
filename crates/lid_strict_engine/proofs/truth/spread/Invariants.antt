use Rattle.lid_strict_engine.specs.Truth.{HasValues}
use Rattle.lid_strict_engine.proofs.truth.spread.Given as goal

abbrev pub invariant-loop-e : goal.invariant-loop-e
invariant-loop-e l = HasValues l.cover l.e l.table
