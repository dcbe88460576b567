use Rattle.std.proofs.Common.{◌≡◌, ◌≤◌, ℕ, min, slice_index_or, drop}
use Rattle.lid_check_models.specs.Counts.{with_insts, count_by_subs}
use Rattle.lid_check_models.proofs.counts.count_with_insts.Given as goal

abbrev pub invariant-loop-i : goal.invariant-loop-i
invariant-loop-i l = record {
  small : l.count ≤ 18446744073709551615;
  rest : min (with_insts l.what l.survey (λ (j : ℕ). slice_index_or l.counts j 0) l.count (drop l.i l.model.insts)) 18446744073709551615 ≡ min (count_by_subs l.what l.survey (λ (j : ℕ). slice_index_or l.counts j 0) l.k) 18446744073709551615;
}
