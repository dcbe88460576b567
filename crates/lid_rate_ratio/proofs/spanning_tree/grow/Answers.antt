use Rattle.lid_rate_ratio.proofs.Growing.{spread_then, spread_else}
use Rattle.lid_rate_ratio.proofs.spanning_tree.grow.Goals as goal
use Rattle.lid_rate_ratio.proofs.spanning_tree.grow.Goals.{then-extend, else-extend}

pub loop-k-preserved : goal.loop-k-preserved
loop-k-preserved c = elim c.if-extend.branch [
  | then-extend w ↦ spread_then c.args.graph.now c.args.edges.now c.args.start c.args.q c.args.first c.requires.edges c.loop-k.k-index c.loop-k-test.true c.args.tree.now.via.items c.loop-k.tree.via.items c.loop-k.tree.lead.items c.loop-k.tree.depth.items c.loop-k.grown c.loop-k.invariant c.extend.new.tree.via.items c.extend.new.tree.lead.items c.extend.new.tree.depth.items c.edge.result c.edge.ensures c.extend.result c.extend.ensures w.if-extend.true c.if-extend.grown w.grown-is
  | else-extend w ↦ spread_else c.args.graph.now c.args.edges.now c.args.start c.args.q c.args.first c.requires.edges c.loop-k.k-index c.loop-k-test.true c.args.tree.now.via.items c.loop-k.tree.via.items c.loop-k.tree.lead.items c.loop-k.tree.depth.items c.loop-k.grown c.loop-k.invariant c.extend.new.tree.via.items c.extend.new.tree.lead.items c.extend.new.tree.depth.items c.edge.result c.edge.ensures c.extend.result c.extend.ensures w.if-extend.false c.if-extend.grown w.grown-is
]
