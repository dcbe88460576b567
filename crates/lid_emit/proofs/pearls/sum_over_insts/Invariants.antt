use Rattle.std.proofs.Common.{◌≡◌, ℕ, [], ◌∷◌, map, min, sum_by}
use Rattle.std.specs.List.{range_with_len}
use Rattle.lid_emit_meaning.specs.Sizes.{at_path, AreModelCounts}
use Rattle.lid_emit.proofs.pearls.sum_over_insts.Given as goal

abbrev pub invariant-loop-i : goal.invariant-loop-i
invariant-loop-i l = (f : ℕ → ℕ) → AreModelCounts l.survey f l.counts → l.sum ≡ min (sum_by (at_path l.survey f) (map (λ i. i ∷ []) (range_with_len 0 l.i))) 18446744073709551615
