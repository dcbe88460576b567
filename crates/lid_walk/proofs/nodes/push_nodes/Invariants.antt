use Rattle.lid_texts_packed.specs.Input.{input_of}
use Rattle.lid_walk.specs.Inside.{AreFirstActors}
use Rattle.lid_walk.proofs.nodes.push_nodes.Given as goal

abbrev pub invariant-loop-node : goal.invariant-loop-node
invariant-loop-node l = AreFirstActors l.placed (input_of l.rows) l.node l.actors.items
