use Rattle.lid_emit_layout.specs.Ends.{AreUnjoined}
use Rattle.lid_emit_layout.proofs.ends.alone.Given as goal

abbrev pub invariant-loop : goal.invariant-loop
invariant-loop l = AreUnjoined l.counter l.ends.items
