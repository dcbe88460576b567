use Rattle.std.proofs.Common.{ℕ}
use Rattle.lid_graph.specs.Forests.{IsForest, IsLinked}
use Rattle.lid_graph.proofs.union_find.unite_all.Given as goal

abbrev pub invariant-loop-k : goal.invariant-loop-k
invariant-loop-k l = record {
  forest : IsForest l.parents;
  linked : (label : ℕ → ℕ) × IsLinked l.graph l.k l.parents label;
}
