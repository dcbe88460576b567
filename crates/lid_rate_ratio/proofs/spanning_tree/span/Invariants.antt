use Rattle.std.proofs.Common.{◌≡◌, ◌+◌, false, length, cond}
use Rattle.lid_rate_ratio.specs.SpanningTrees.{IsTree, IsSpanning, unreached}
use Rattle.lid_rate_ratio.proofs.spanning_tree.span.Given as goal

abbrev pub invariant-loop-grown : goal.invariant-loop-grown
invariant-loop-grown l = record { tree : IsTree l.graph l.edges l.root.start l.root.q l.root.first l.tree.via.items l.tree.lead.items l.tree.depth.items; closed : l.grown ≡ false → IsSpanning l.graph l.edges l.root.start (length l.edges) l.tree.via.items }

abbrev pub decreases-loop-grown : goal.decreases-loop-grown
decreases-loop-grown l = unreached l.tree.via.items + cond l.grown 1 0
