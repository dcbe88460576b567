-- The rule for lags, and firing counts.
use Rattle.std.proofs.Common.{◌≡◌, ℕ, zero, suc, ◌+◌, ◌*◌, ◌<◌, ◌≤◌, ◌⊎◌, inl, inr, List, [], ◌∷◌, ◌++◌, length, refl, ap, arith}
use Rattle.std.proofs.lemmas.List.{length-append}
use Rattle.lid_graph.specs.declared.graph.Graph.{Graph}
use Rattle.lid_graph.specs.Walks.{edge_at, IsPaired, IsWalk, IsJoined, walk_tokens}
use Rattle.lid_graph.specs.Firings.{Counts, no_hold, firings, least_into, AreFitCaps}
use Rattle.lid_graph.specs.Ratios.{IsLag}
use Rattle.lid_graph.proofs.Counting.{Allowing, least_into_cases}
use Rattle.lid_graph.proofs.Journeys.{walk_append, joined_step, joined_back}
use Rattle.lid_rate.specs.Laws.{MeetLagRule, LagsMeetRule, RuleBoundsFirings}
use Rattle.lid_rate_ratio.proofs.Backward.{tokens_append}

pub lags_meet_rule : LagsMeetRule
lags_meet_rule g v p q lag near k h joined =
    let edge : IsWalk g (edge_at g k).from (k ∷ []) (edge_at g k).to = (h, refl, refl) in
    let begins : IsLag g p q (edge_at g k).from (lag (edge_at g k).from) = near (edge_at g k).from joined in
    let ends : IsLag g p q (edge_at g k).to (lag (edge_at g k).to) = near (edge_at g k).to (joined_step g v (edge_at g k).from (edge_at g k).to joined (k ∷ [], edge)) in
    let most = begins.some in
    let u : ℕ = most.0 in
    let ks : List ℕ = most.1 in
    let bound : p * length (ks ++ k ∷ []) ≤ lag (edge_at g k).to + q * walk_tokens g (ks ++ k ∷ []) = ends.all u (ks ++ k ∷ []) (walk_append g ks (k ∷ []) u (edge_at g k).from (edge_at g k).to most.2 edge) in
    by_sums ks (length-append ks (k ∷ [])) (tokens_append g ks (k ∷ [])) bound most.3
  where
    by_sums : (ks : List ℕ) → length (ks ++ k ∷ []) ≡ length ks + 1 → walk_tokens g (ks ++ k ∷ []) ≡ walk_tokens g ks + walk_tokens g (k ∷ []) → p * length (ks ++ k ∷ []) ≤ lag (edge_at g k).to + q * walk_tokens g (ks ++ k ∷ []) → p * length ks ≡ lag (edge_at g k).from + q * walk_tokens g ks → lag (edge_at g k).from + p ≤ lag (edge_at g k).to + q * (edge_at g k).tokens
    by_sums ks long tokens bound most =
        let a : p * length (ks ++ k ∷ []) ≡ p * (length ks + 1) = ap (λ (n : ℕ). p * n) long in
        let b : q * walk_tokens g (ks ++ k ∷ []) ≡ q * (walk_tokens g ks + walk_tokens g (k ∷ [])) = ap (λ (n : ℕ). q * n) tokens in
        let c : walk_tokens g (k ∷ []) ≡ (edge_at g k).tokens = omega arith in
        let d : q * (walk_tokens g ks + walk_tokens g (k ∷ [])) ≡ q * (walk_tokens g ks + (edge_at g k).tokens) = ap (λ (n : ℕ). q * (walk_tokens g ks + n)) c in
        omega arith

module _ (g : Graph) (v p q : ℕ) (lag : ℕ → ℕ) (cap : Counts) (paired : IsPaired g) (rule : MeetLagRule g v p q lag) (fit : AreFitCaps g cap) where
  bounds : (k w : ℕ) → IsJoined g v w → firings g cap no_hold k w < cap w → p * k ≤ q * firings g cap no_hold k w + lag w
  unfolding firings
  bounds zero w joined below = omega arith
  bounds (suc k) w joined below = by_least (λ u near low. bounds k u near low) (least_into_cases g.edges (firings g cap no_hold k) w (cap w)) below
    where
      by_least : ((u : ℕ) → IsJoined g v u → firings g cap no_hold k u < cap u → p * k ≤ q * firings g cap no_hold k u + lag u) → (least_into g.edges (firings g cap no_hold k) w (cap w) ≡ cap w) ⊎ Allowing g.edges (firings g cap no_hold k) w (least_into g.edges (firings g cap no_hold k) w (cap w)) → firings g cap no_hold (suc k) w < cap w → p * suc k ≤ q * firings g cap no_hold (suc k) w + lag w
      by_least earlier (inl is) h = absurd (omega arith)
      by_least earlier (inr a) h =
          let edge : IsWalk g (edge_at g a.edge).from (a.edge ∷ []) w = (a.within, refl, a.ends) in
          let back : IsJoined g w (edge_at g a.edge).from = joined_back g paired (a.edge ∷ []) (edge_at g a.edge).from w edge in
          let near : IsJoined g v (edge_at g a.edge).from = joined_step g v w (edge_at g a.edge).from joined back in
          let met : lag (edge_at g a.edge).from + p ≤ lag (edge_at g a.edge).to + q * (edge_at g a.edge).tokens = rule a.edge a.within near in
          let caps = fit a.edge a.within in
          let cap_same : cap (edge_at g a.edge).to ≡ cap w = ap cap a.ends in
          let lag_same : lag (edge_at g a.edge).to ≡ lag w = ap lag a.ends in
          let now : firings g cap no_hold (suc k) w ≡ firings g cap no_hold k (edge_at g a.edge).from + (edge_at g a.edge).tokens = a.is in
          let before : p * k ≤ q * firings g cap no_hold k (edge_at g a.edge).from + lag (edge_at g a.edge).from = earlier (edge_at g a.edge).from near (omega arith) in
          let scaled : q * firings g cap no_hold (suc k) w ≡ q * (firings g cap no_hold k (edge_at g a.edge).from + (edge_at g a.edge).tokens) = ap (λ (n : ℕ). q * n) now in
          omega arith

pub rule_bounds_firings : RuleBoundsFirings
rule_bounds_firings g v p q lag cap k paired rule fit below = bounds g v p q lag cap paired rule fit k v ([], refl) below
