use Rattle.lid_rate_ratio.specs.SpanningTrees.{IsGrown}
use Rattle.lid_rate_ratio.proofs.spanning_tree.grow.Given as goal

abbrev pub invariant-loop-k : goal.invariant-loop-k
invariant-loop-k l = IsGrown l.graph l.edges l.start l.q l.first l.k-index l.initial.tree.via.items l.tree.via.items l.tree.lead.items l.tree.depth.items l.grown
