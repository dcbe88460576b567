use Rattle.std.proofs.Common.{ℕ, ◌≡◌, ◌<◌, get_or}
use Rattle.lid_graph.specs.Forests.{IsForest, IsLabelled}
use Rattle.lid_graph.proofs.union_find.flatten.Given as goal

abbrev pub invariant-loop-v : goal.invariant-loop-v
invariant-loop-v l = record {
  forest : IsForest l.parents;
  label : (label : ℕ → ℕ) → IsLabelled l.fn.parents label → IsLabelled l.parents label × ((w : ℕ) → w < l.v → get_or l.parents w 0 ≡ label w);
}
