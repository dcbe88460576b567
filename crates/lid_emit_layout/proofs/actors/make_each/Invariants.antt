use Rattle.lid_emit_layout.specs.Actors.{HaveEnds}
use Rattle.lid_emit_layout.proofs.actors.make_each.Given as goal

abbrev pub invariant-loop-v : goal.invariant-loop-v
invariant-loop-v l = HaveEnds l.v l.ends l.actors.items
