use Rattle.std.proofs.lemmas.List.Filters.{dedup_is}
use Rattle.std.proofs.lemmas.List.Kept.{Contains-dedup, Contains-from_dedup, IsStrictlySortedBy-dedup}
use Rattle.std.proofs.lemmas.List.Sorted.{Contains-permutation, IsPermutation-sym}
use Rattle.lid_net_channels.proofs.Ordering.{read_total, read_ties, read_equiv, eq_same, ascend, to_contains, from_contains}
use Rattle.lid_net_channels.proofs.reads.put_in_order.Goals as goal

pub returns-clause-ascending : goal.returns-clause-ascending
returns-clause-ascending c =
    rw (dedup_is _ _ _ c.dedup.ensures.filtered) (ascend _ (IsStrictlySortedBy-dedup read_total read_ties _ c.sort_unstable.ensures.sorted))

pub returns-clause-among : goal.returns-clause-among
returns-clause-among c r =
    let is = dedup_is _ _ _ c.dedup.ensures.filtered in
    let moved = c.sort_unstable.ensures.permutation in (
      (λ h. from_contains r _ (Contains-permutation _ _ r (IsPermutation-sym _ _ moved) (Contains-from_dedup _ _ r (rw is at (to_contains r _ h))))),
      λ h. from_contains r _ (rw is (Contains-dedup read_equiv eq_same _ r (Contains-permutation _ _ r moved (to_contains r _ h)))),
    )
