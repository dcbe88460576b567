use Rattle.std.proofs.Common.{ℕ, ◌≡◌, ◌≤◌}
use Rattle.lid_graph.specs.Forests.{IsForest, IsLabelled}
use Rattle.lid_graph.proofs.union_find.find.Given as goal

abbrev pub invariant-loop-parents : goal.invariant-loop-parents
invariant-loop-parents l = record {
  forest : IsForest l.parents;
  within : l.at ≤ l.fn.v;
  label : (label : ℕ → ℕ) → IsLabelled l.fn.parents label → IsLabelled l.parents label × (label l.at ≡ label l.fn.v);
}

abbrev pub decreases-loop-parents : goal.decreases-loop-parents
decreases-loop-parents l = l.at
