-- What the test of a guess shows.
use Rattle.std.proofs.Common.{◌≡◌, ℕ, zero, suc, ◌+◌, ◌*◌, ◌^◌, ◌<◌, ◌≤◌, ◌≢◌, ◌⊎◌, inl, inr, Bool, true, false, List, [], ◌∷◌, ◌++◌, length, replicate, get_or, set, Option, Some, None, refl, sym, ◌∙◌, ap, subst, arith}
use Rattle.std.specs.List.{All}
use Rattle.std.specs.Option.{MatchOption}
use Rattle.std.proofs.lemmas.Bool.{cases_eq, cases_lt}
use Rattle.std.proofs.lemmas.List.{get_or-set_same, get_or-set_other, length-set, get_or_past, get_or_default, length-append, length-replicate}
use Rattle.lid_graph.specs.declared.graph.Graph.{Graph}
use Rattle.lid_graph.specs.Walks.{edge_at, walk_start, walk_tokens, IsWalk}
use Rattle.lid_graph.proofs.Journeys.{walk_append}
use Rattle.lid_rate_ratio.specs.Once.{MeetsOnce}
use Rattle.lid_rate_ratio.specs.Relaxation.{AreAtMost}
use Rattle.lid_rate_ratio.specs.CycleRatios.{IsLowest}
use Rattle.lid_rate_ratio.specs.Components.{IsSmallGraph, IsCycle, IsAsked, AreLeastLags, HasRate}
use Rattle.lid_rate_ratio.specs.Tests.{LeadsOn, IsSeenRound, IsTight, AreShown}
use Rattle.lid_rate_ratio.proofs.Backward.{tokens_append}

-- where all of a list are at most a number, so is what is read past its end
pub at_most : (xs : List ℕ) (most : ℕ) → All (λ n. n ≤ most) xs → AreAtMost xs most
at_most xs most all v = by_order (cases_lt v (length xs))
  where
    by_order : (v < length xs) ⊎ (length xs ≤ v) → get_or xs v 0 ≤ most
    by_order (inl h) = all v 0 h
    by_order (inr h) = let past : get_or xs v 0 ≡ 0 = get_or_past xs v 0 h in omega arith

module _ (g : Graph) where
  pub leads_walk : (ks : List ℕ) (at : ℕ) (seen : List Bool) (end : ℕ) → LeadsOn g at seen ks end → IsWalk g at ks end
  leads_walk [] at seen end leads = leads
  leads_walk (k ∷ ks) at seen end leads = (leads.0, leads.1, leads_walk ks (edge_at g k).to (set seen (edge_at g k).to true) end leads.3)

  leads_at : (ks : List ℕ) (at : ℕ) (seen : List Bool) (end i : ℕ) → LeadsOn g at seen ks end → i < length ks → get_or ks i 0 < length g.edges
  leads_at [] at seen end i leads h = absurd (omega arith)
  leads_at (k ∷ ks) at seen end zero leads h = leads.0
  leads_at (k ∷ ks) at seen end (suc i) leads h = leads_at ks (edge_at g k).to (set seen (edge_at g k).to true) end i leads.3 (omega arith)

  pub leads_within : (ks : List ℕ) (at : ℕ) (seen : List Bool) (end : ℕ) → LeadsOn g at seen ks end → All (λ k. k < length g.edges) ks
  leads_within ks at seen end leads i d h = subst (λ (n : ℕ). n < length g.edges) (get_or_default ks i 0 d h) (leads_at ks at seen end i leads h)

  unset : (seen : List Bool) (a b : ℕ) → get_or (set seen a true) b false ≡ false → get_or seen b false ≡ false
  unset seen a b none = by_place (cases_eq b a) (cases_lt b (length seen))
    where
      by_place : (b ≡ a) ⊎ (b ≢ a) → (b < length seen) ⊎ (length seen ≤ b) → get_or seen b false ≡ false
      by_place (inl is) (inl h) =
          let here : get_or (set seen a true) a false ≡ true = get_or-set_same seen a true false (subst (λ (n : ℕ). n < length seen) is h) in
          let there : get_or (set seen a true) b false ≡ true = ap (λ (n : ℕ). get_or (set seen a true) n false) is ∙ here in
          cc
      by_place (inl is) (inr h) = get_or_past seen b false h
      by_place (inr other) h = sym (get_or-set_other seen a b true false other) ∙ none

  -- what the edges lead to was not seen before
  leads_new : (ks : List ℕ) (at : ℕ) (seen : List Bool) (end i : ℕ) → LeadsOn g at seen ks end → i < length ks → get_or seen (edge_at g (get_or ks i 0)).to false ≡ false
  leads_new [] at seen end i leads h = absurd (omega arith)
  leads_new (k ∷ ks) at seen end zero leads h = leads.2
  leads_new (k ∷ ks) at seen end (suc i) leads h = unset seen (edge_at g k).to (edge_at g (get_or ks i 0)).to (leads_new ks (edge_at g k).to (set seen (edge_at g k).to true) end i leads.3 (omega arith))

  module _ (ok : IsSmallGraph g) where
    later_other : (k : ℕ) (ks : List ℕ) (seen : List Bool) (end i : ℕ) → k < length g.edges → length seen ≡ g.nodes → LeadsOn g (edge_at g k).to (set seen (edge_at g k).to true) ks end → i < length ks → (edge_at g (get_or ks i 0)).to ≢ (edge_at g k).to
    later_other k ks seen end i within long leads h same =
        let new : get_or (set seen (edge_at g k).to true) (edge_at g (get_or ks i 0)).to false ≡ false = leads_new ks (edge_at g k).to (set seen (edge_at g k).to true) end i leads h in
        let low = ok.to k within in
        let here : get_or (set seen (edge_at g k).to true) (edge_at g k).to false ≡ true = get_or-set_same seen (edge_at g k).to true false (omega arith) in
        let there : get_or (set seen (edge_at g k).to true) (edge_at g (get_or ks i 0)).to false ≡ true = ap (λ (n : ℕ). get_or (set seen (edge_at g k).to true) n false) same ∙ here in
        cc

    pub leads_once : (ks : List ℕ) (at : ℕ) (seen : List Bool) (end : ℕ) → length seen ≡ g.nodes → LeadsOn g at seen ks end → MeetsOnce g ks
    leads_once [] at seen end long leads i j hi hj same = absurd (omega arith)
    leads_once (k ∷ ks) at seen end long leads zero zero hi hj same = refl
    leads_once (k ∷ ks) at seen end long leads zero (suc j) hi hj same = absurd (later_other k ks seen end j leads.0 long leads.3 (omega arith) (sym same))
    leads_once (k ∷ ks) at seen end long leads (suc i) zero hi hj same = absurd (later_other k ks seen end i leads.0 long leads.3 (omega arith) same)
    leads_once (k ∷ ks) at seen end long leads (suc i) (suc j) hi hj same = ap suc (leads_once ks (edge_at g k).to (set seen (edge_at g k).to true) end (length-set seen (edge_at g k).to true ∙ long) leads.3 i j (omega arith) (omega arith) same)

    pub cycle_of : (walk : List ℕ) (tokens long p q : ℕ) → IsSeenRound g walk → 0 < length walk → length walk ≤ g.nodes → tokens ≡ walk_tokens g walk → long ≡ length walk → tokens ≤ 16 * length walk → IsLowest tokens long p q → IsCycle g p q walk
    cycle_of walk tokens long p q round some short tokens_is long_is most lowest = record {
      closed = record { some = some; closed = leads_walk walk (walk_start g walk) (replicate g.nodes false) (walk_start g walk) round };
      once = leads_once walk (walk_start g walk) (replicate g.nodes false) (walk_start g walk) (length-replicate g.nodes false) round;
      short = short;
      lowest = subst (λ (n : ℕ). IsLowest n (length walk) p q) tokens_is (subst (λ (n : ℕ). IsLowest tokens n p q) long_is lowest);
      few = (let a = lowest.least_p in omega arith);
    }

  module _ (p q : ℕ) (lags ranks : List ℕ) (tight : List (Option ℕ)) (ok : IsSmallGraph g) (shown : AreShown g p q lags ranks tight) where
    -- by way of tight edges, from lesser ranks to greater ones
    asked : (most v : ℕ) → v < g.nodes → get_or ranks v 0 < most → IsAsked g p q lags v
    asked zero v h low = absurd (omega arith)
    asked (suc most) v h low = by_edge (λ u hu less. asked most u hu less) (get_or tight v None) (shown.shown v h)
      where
        by_edge : ((u : ℕ) → u < g.nodes → get_or ranks u 0 < most → IsAsked g p q lags u) → (o : Option ℕ) → MatchOption o (get_or lags v 0 ≡ 0) (IsTight g p q lags ranks v) → IsAsked g p q lags v
        by_edge before None none = (v, [], refl, omega arith)
        by_edge before (Some k) edge =
            let lesser = edge.lesser in
            let way = before (edge_at g k).from (ok.from k edge.within) (omega arith) in
            let last : IsWalk g (edge_at g k).from (k ∷ []) v = (edge.within, refl, edge.ends) in
            let long : length (way.1 ++ k ∷ []) ≡ length way.1 + 1 = length-append way.1 (k ∷ []) in
            let tokens : walk_tokens g (way.1 ++ k ∷ []) ≡ walk_tokens g way.1 + walk_tokens g (k ∷ []) = tokens_append g way.1 (k ∷ []) in
            (way.0, way.1 ++ k ∷ [], walk_append g way.1 (k ∷ []) way.0 (edge_at g k).from v way.2 last, sums way.1 (walk_tokens g way.1) long tokens way.3 edge.all)
          where
            sums : (ks : List ℕ) (t : ℕ) → length (ks ++ k ∷ []) ≡ length ks + 1 → walk_tokens g (ks ++ k ∷ []) ≡ t + walk_tokens g (k ∷ []) → p * length ks ≡ get_or lags (edge_at g k).from 0 + q * t → get_or lags (edge_at g k).from 0 + p ≡ get_or lags v 0 + q * (edge_at g k).tokens → p * length (ks ++ k ∷ []) ≡ get_or lags v 0 + q * walk_tokens g (ks ++ k ∷ [])
            sums ks t long tokens far all =
                let a : p * length (ks ++ k ∷ []) ≡ p * (length ks + 1) = ap (λ (n : ℕ). p * n) long in
                let one : walk_tokens g (k ∷ []) ≡ (edge_at g k).tokens = omega arith in
                let b : q * walk_tokens g (ks ++ k ∷ []) ≡ q * (t + (edge_at g k).tokens) = ap (λ (n : ℕ). q * n) (tokens ∙ ap (λ (n : ℕ). t + n) one) in
                omega arith

    pub least_lags : AreLeastLags g p q lags
    least_lags = record {
      count = shown.lag_count;
      met = shown.met;
      asked = λ v h. asked (get_or ranks v 0 + 1) v h (omega arith);
      small = at_most lags (2 ^ 60) shown.small;
    }

    pub has_rate : (walk : List ℕ) → IsCycle g p q walk → HasRate g p q walk lags
    has_rate walk cycle = record { cycle = cycle; are_lags = least_lags }

  pub small_p : (p q : ℕ) (walk : List ℕ) → IsSmallGraph g → IsCycle g p q walk → p ≤ 2 ^ 22
  small_p p q walk ok cycle = let a = cycle.few in let b = cycle.short in let c = ok.nodes in omega arith

  pub small_q : (p q : ℕ) (walk : List ℕ) → IsSmallGraph g → IsCycle g p q walk → q ≤ 2 ^ 18
  small_q p q walk ok cycle = let a = cycle.lowest.least_q in let b = cycle.short in let c = ok.nodes in omega arith
