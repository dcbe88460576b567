use Rattle.std.proofs.Common.{length}
use Rattle.lid_rate_ratio.specs.SpanningTrees.{IsSpanning, unreached}
use Rattle.lid_rate_ratio.proofs.Growing.{round_smaller}
use Rattle.lid_rate_ratio.proofs.spanning_tree.span.Goals as goal

pub loop-grown-smaller : goal.loop-grown-smaller
loop-grown-smaller c = round_smaller (unreached c.loop-grown.tree.via.items) (unreached c.grow-grown.new.tree.via.items) c.loop-grown.grown c.grow-grown.result (IsSpanning c.args.graph.now c.args.edges.now c.args.root.start (length c.args.edges.now) c.grow-grown.new.tree.via.items) c.loop-grown-test.true c.grow-grown.ensures.no_more c.grow-grown.ensures.grown
