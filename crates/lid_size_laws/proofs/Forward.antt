-- Forward ratios, and ratios that come up to them.
use Rattle.std.proofs.Common.{◌≡◌, ℕ, ◌*◌, ◌≤◌, List, length, sym, ◌∙◌, ap, arith}
use Rattle.std.proofs.Math.Nat.{mul-le-mul_left}
use Rattle.lid_graph.specs.declared.graph.Graph.{Graph}
use Rattle.lid_graph.specs.Walks.{walk_start, walk_tokens}
use Rattle.lid_graph.specs.Ratios.{IsRatio}
use Rattle.lid_graph.proofs.Journeys.{joined_step, joined_back}
use Rattle.lid_size_laws.specs.Capacities.{IsForwardWalkNear, IsForwardRatio, HasForwardRatio}
use Rattle.lid_size_laws.specs.Differing.{KeepsRatio, HasNoMore}
use Rattle.lid_size_laws.specs.Laws.{TokensRaiseRatios, NoRatioIsAboveForward, ForwardRatiosStay, ForwardRatiosSpread, ForwardRatiosAreKept, ForwardRatiosAreCompared, GreaterCapacitiesKeep}
use Rattle.lid_size_laws.proofs.Scaling.{compared, lowered}
use Rattle.lid_size_laws.proofs.Alike.{alike_back, closed_alike, fewer_tokens, forward_tokens}

-- what is kept with fewer tokens is kept with more
pub more_keeps : (g h : Graph) (v p q : ℕ) → HasNoMore g h → KeepsRatio g v p q → KeepsRatio h v p q
more_keeps g h v p q less kept ks near =
    let back = closed_alike h g (alike_back g h less.alike) v ks near in
    let here = kept ks back in
    let more = mul-le-mul_left q (fewer_tokens g h less ks (walk_start g ks) (walk_start g ks) (back.0).closed) in
    omega arith

pub tokens_raise : TokensRaiseRatios
tokens_raise g h v p q more_p more_q less low high =
    let walk = high.some in
    compared p q more_p more_q (length walk.0) (walk_tokens h walk.0) ((walk.1).0).some (more_keeps g h v p q less low.all walk.0 walk.1) walk.2

pub above_none : NoRatioIsAboveForward
above_none g n v p q most_p most_q ratio forward =
    let walk = forward.some in
    compared p q most_p most_q (length walk.0) (walk_tokens g walk.0) (((walk.1).0).0).some (ratio.all walk.0 (walk.1).0) walk.2

pub ratios_stay : ForwardRatiosStay
ratios_stay n g h v p q differ ratio = record {
  positive = ratio.positive;
  lowest = ratio.lowest;
  all = all;
  some = some;
}
  where
    all : (ks : List ℕ) → IsForwardWalkNear h n v ks → p * length ks ≤ q * walk_tokens h ks
    all ks near =
        let back = closed_alike h g (alike_back g h differ.alike) v ks near.0 in
        let kept = ratio.all ks (back, near.1) in
        let same : q * walk_tokens g ks ≡ q * walk_tokens h ks = ap (λ (n : ℕ). q * n) (forward_tokens n g h differ ks (walk_start g ks) (walk_start g ks) (back.0).closed near.1) in
        omega arith

    some : (ks : List ℕ) × IsForwardWalkNear h n v ks × (q * walk_tokens h ks ≡ p * length ks)
    some =
        let walk = ratio.some in
        let near = walk.1 in
        let same : q * walk_tokens g walk.0 ≡ q * walk_tokens h walk.0 = ap (λ (n : ℕ). q * n) (forward_tokens n g h differ walk.0 (walk_start g walk.0) (walk_start g walk.0) ((near.0).0).closed near.1) in
        (walk.0, (closed_alike g h differ.alike v walk.0 near.0, near.1), sym same ∙ walk.2)

pub ratios_spread : ForwardRatiosSpread
ratios_spread n g u v p q paired joined ratio =
    let back = joined_back g paired joined.0 u v joined.1 in
    let walk = ratio.some in
    let near = walk.1 in
    record {
      positive = ratio.positive;
      lowest = ratio.lowest;
      all = λ ks near. ratio.all ks (((near.0).0, joined_step g u v (walk_start g ks) joined (near.0).1), near.1);
      some = (walk.0, (((near.0).0, joined_step g v u (walk_start g walk.0) back (near.0).1), near.1), walk.2);
    }

module _ (g : Graph) (n v : ℕ) where
  -- a ratio that no closed walk is below is that of the component
  pub kept_ratio : (p q : ℕ) → IsForwardRatio g n v p q → KeepsRatio g v p q → IsRatio g v p q
  kept_ratio p q forward kept =
      let walk = forward.some in
      record { positive = forward.positive; lowest = forward.lowest; all = kept; some = (walk.0, (walk.1).0, walk.2) }

  pub kept_has : (p q : ℕ) → IsForwardRatio g n v p q → KeepsRatio g v p q → HasForwardRatio g n v
  kept_has p q forward kept = (p, q, forward, kept_ratio p q forward kept)

  -- all forward ratios are one
  pub same_forward : (p q p' q' : ℕ) → IsForwardRatio g n v p q → IsForwardRatio g n v p' q' → p * q' ≤ p' * q
  same_forward p q p' q' one other =
      let walk = other.some in
      compared p q p' q' (length walk.0) (walk_tokens g walk.0) (((walk.1).0).0).some (one.all walk.0 walk.1) walk.2

  pub has_kept : (p q : ℕ) → IsForwardRatio g n v p q → HasForwardRatio g n v → KeepsRatio g v p q
  has_kept p q forward has ks near =
      let p' = has.0 in
      let q' = has.1 in
      lowered p q p' q' (length ks) (walk_tokens g ks) (has.2).positive (same_forward p q p' q' forward has.2) ((has.3).all ks near)

  pub below_kept : (p q most_p most_q : ℕ) → IsRatio g v p q → most_p * q ≤ p * most_q → KeepsRatio g v most_p most_q
  below_kept p q most_p most_q ratio less ks near = lowered most_p most_q p q (length ks) (walk_tokens g ks) ratio.positive less (ratio.all ks near)

  pub kept_below : (p q most_p most_q : ℕ) → IsRatio g v p q → KeepsRatio g v most_p most_q → most_p * q ≤ p * most_q
  kept_below p q most_p most_q ratio kept =
      let walk = ratio.some in
      compared most_p most_q p q (length walk.0) (walk_tokens g walk.0) ((walk.1).0).some (kept walk.0 walk.1) walk.2

pub are_kept : ForwardRatiosAreKept
are_kept g n v p q forward = (has_kept g n v p q forward, kept_has g n v p q forward)

pub are_compared : ForwardRatiosAreCompared
are_compared g n v p q most_p most_q ratio forward = (
  λ has. kept_below g n v p q most_p most_q ratio (has_kept g n v most_p most_q forward has),
  λ less. kept_has g n v most_p most_q forward (below_kept g n v p q most_p most_q ratio less),
)

pub greater_keep : GreaterCapacitiesKeep
greater_keep n g h v differ less has =
    let stays = ratios_stay n g h v has.0 has.1 differ has.2 in
    kept_has h n v has.0 has.1 stays (more_keeps g h v has.0 has.1 less (has.3).all)
