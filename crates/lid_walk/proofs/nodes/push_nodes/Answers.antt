-- One node more.
use Rattle.lid_texts_packed.specs.Input.{input_of}
use Rattle.lid_walk.proofs.Pushed.{one_more}
use Rattle.lid_walk.proofs.nodes.push_nodes.Goals as goal

pub loop-node-preserved : goal.loop-node-preserved
loop-node-preserved c = one_more c.args.placed.now (input_of c.args.rows) c.loop-node.node c.loop-node.actors.items c.push.new.self.items c.in_ok-node_of.field-0 c.loop-node.invariant c.in_ok-push.ensures.items c.in_ok-node_of.ensures
