-- The parts of a certificate whose ratios are their forward ratios.
use Rattle.std.proofs.Common.{◌≡◌, ℕ, suc, ◌^◌, ◌<◌, ◌≤◌, true, List, [], ◌∷◌, length, sym, ◌∙◌, subst, arith}
use Rattle.std.specs.List.{sum_by}
use Rattle.std.proofs.lemmas.List.{get_or_default}
use Rattle.std.proofs.lemmas.List.Sums.{sum_by-cons}
use Rattle.lid_graph.specs.declared.graph.Graph.{Graph}
use Rattle.lid_cert.specs.declared.cert.Part.{Part}
use Rattle.lid_cert.specs.declared.cert.Cert.{Cert}
use Rattle.lid_cert.specs.Certificates.{has_node, least_node, IsPart, no_part, part_at}
use Rattle.lid_cert.specs.Laws.{ShowsTransition}
use Rattle.lid_cert.proofs.Consequences.{ratio_is_shown, each_is_shown}
use Rattle.lid_size_laws.specs.Capacities.{IsForwardRatio, HasForwardRatio}
use Rattle.lid_size_laws.proofs.Forward.{ratios_spread, are_compared}
use Rattle.lid_rate_ratio.specs.declared.lowest_terms.Ratio.{Ratio}
use Rattle.lid_size.specs.Comparing.{IsRatioKept, AreAllKept, IsFirstLow, AreCompared, want_of}
use Rattle.lid_size.proofs.Joins.{joined_inside, least_inside, least_within}

-- there are no more parts than transitions in them
few_parts : (parts : List Part) → ((i : ℕ) → i < length parts → 1 ≤ length (part_at parts i).nodes) → length parts ≤ sum_by (λ part. length part.nodes) parts
few_parts [] some = omega arith
few_parts (part ∷ parts) some =
    let here = some 0 (omega arith) in
    let later = few_parts parts (λ i h. some (suc i) (omega arith)) in
    let sums = sum_by-cons (λ (part : Part). length part.nodes) part parts in
    omega arith

module _ (g : Graph) (n : ℕ) (cert : Cert) (wants : List Ratio) (compared : AreCompared g n cert wants) where
  pub part_met : (i : ℕ) → i < length cert.parts → IsPart g (part_at cert.parts i)
  part_met i h = compared.certifies.parts i no_part h

  pub parts_few : length cert.parts < 2 ^ 32
  parts_few =
      let few = few_parts cert.parts (λ i h. (part_met i h).inside.some) in
      let all = compared.short.nodes in
      let most = compared.rateable.nodes in
      omega arith

  shows : (i v : ℕ) → i < length cert.parts → has_node (part_at cert.parts i) v ≡ true → ShowsTransition g cert (part_at cert.parts i) v
  shows i v h inside = record {
    paired = compared.rateable.paired;
    certifies = compared.certifies;
    stands = (i, h, get_or_default cert.parts i (part_at cert.parts i) no_part h);
    inside = inside;
  }

  least_ratio : (i : ℕ) → i < length cert.parts → IsForwardRatio g n (least_node (part_at cert.parts i)) (want_of wants (part_at cert.parts i)).p (want_of wants (part_at cert.parts i)).q
  least_ratio i h = compared.ratios.each (least_node (part_at cert.parts i)) (least_within g (part_at cert.parts i) (part_met i h))

  pub want_is : (i : ℕ) → i < length cert.parts → IsForwardRatio g n (least_node (part_at cert.parts i)) (want_of wants (part_at cert.parts i)).p (want_of wants (part_at cert.parts i)).q
  want_is i h = least_ratio i h

  -- a part that is kept has its forward ratio at each of its transitions
  kept_at : (i v : ℕ) → i < length cert.parts → has_node (part_at cert.parts i) v ≡ true → IsRatioKept (want_of wants (part_at cert.parts i)) (part_at cert.parts i) → HasForwardRatio g n v
  kept_at i v h inside kept =
      let part = part_at cert.parts i in
      let least = least_inside g (part_at cert.parts i) (part_met i h) in
      let joined = joined_inside g (part_at cert.parts i) (part_met i h) compared.rateable.paired (least_node (part_at cert.parts i)) v least inside in
      let want = want_of wants (part_at cert.parts i) in
      let spread = ratios_spread n g (least_node (part_at cert.parts i)) v want.p want.q compared.rateable.paired joined (least_ratio i h) in
      let ratio = ratio_is_shown g cert (part_at cert.parts i) v (shows i v h inside) in
      (are_compared g n v part.p part.q want.p want.q ratio spread).1 kept

  pub kept_has : (i : ℕ) → i < length cert.parts → IsRatioKept (want_of wants (part_at cert.parts i)) (part_at cert.parts i) → HasForwardRatio g n (least_node (part_at cert.parts i))
  kept_has i h kept = kept_at i (least_node (part_at cert.parts i)) h (least_inside g (part_at cert.parts i) (part_met i h)) kept

  pub has_kept : (i : ℕ) → i < length cert.parts → HasForwardRatio g n (least_node (part_at cert.parts i)) → IsRatioKept (want_of wants (part_at cert.parts i)) (part_at cert.parts i)
  has_kept i h has =
      let part = part_at cert.parts i in
      let want = want_of wants (part_at cert.parts i) in
      let inside = least_inside g (part_at cert.parts i) (part_met i h) in
      let ratio = ratio_is_shown g cert (part_at cert.parts i) (least_node (part_at cert.parts i)) (shows i (least_node (part_at cert.parts i)) h inside) in
      (are_compared g n (least_node (part_at cert.parts i)) part.p part.q want.p want.q ratio (least_ratio i h)).0 has

  -- where all parts are kept each component has its forward ratio
  pub all_kept : AreAllKept wants cert.parts (length cert.parts) → (v : ℕ) → v < g.nodes → HasForwardRatio g n v
  all_kept kept v h =
      let shown = each_is_shown g cert v compared.rateable.paired compared.certifies h in
      let at = (shown.1).stands in
      let is = get_or_default cert.parts at.0 no_part shown.0 at.1 ∙ at.2 in
      kept_at at.0 v at.1 (subst (λ (part : Part). has_node part v ≡ true) (sym is) (shown.1).inside) (kept at.0 at.1)

  pub low_lacks : (i : ℕ) → IsFirstLow wants cert.parts i → HasForwardRatio g n (least_node (part_at cert.parts i)) → ⊥
  low_lacks i low has = low.low (has_kept i low.within has)
