-- Walks that keep transitions back, and what lags say by them.
use Rattle.std.proofs.Common.{◌≡◌, ℕ, zero, suc, ◌+◌, ◌*◌, ◌<◌, ◌≤◌, ◌⊎◌, inl, inr, List, [], ◌∷◌, ◌++◌, length, refl, sym, ap, subst, arith}
use Rattle.std.specs.Int.{div_ceil}
use Rattle.std.proofs.lemmas.Bool.{cases_lt}
use Rattle.std.proofs.lemmas.Grind.{div_ceil_times}
use Rattle.std.proofs.Math.Nat.{mul-le-mul_left}
use Rattle.lid_graph.specs.declared.graph.Graph.{Graph}
use Rattle.lid_graph.specs.Walks.{edge_at, walk_tokens}
use Rattle.lid_graph.specs.Firings.{no_hold, least_into, firings}
use Rattle.lid_graph.proofs.Counting.{Allowing, least_into_cases, firings_cap}
use Rattle.lid_graph.proofs.Journeys.{walk_append}
use Rattle.lid_graph_laws.specs.Laws.{HasWalkOf, WalksKeepBack, LagBoundsFirings, LagBoundsCycles}
use Rattle.lid_graph_laws.proofs.Rising.{first_at_cap}

pub tokens_append : (g : Graph) (ks ls : List ℕ) → walk_tokens g (ks ++ ls) ≡ walk_tokens g ks + walk_tokens g ls
tokens_append g [] ls = omega arith
tokens_append g (k ∷ ks) ls = omega (arith, tokens_append g ks ls)

length_append : (ks ls : List ℕ) → length (ks ++ ls) ≡ length ks + length ls
length_append [] ls = omega arith
length_append (k ∷ ks) ls = omega (arith, length_append ks ls)

-- one edge more
goes_on : (g : Graph) (i v k n : ℕ) → i < length g.edges → (edge_at g i).to ≡ v → HasWalkOf g (edge_at g i).from k n → HasWalkOf g v (suc k) (n + (edge_at g i).tokens)
goes_on g i v k n within ends w = record {
  start = w.start;
  edges = w.edges ++ i ∷ [];
  leads = walk_append g w.edges (i ∷ []) w.start (edge_at g i).from v w.leads (within, refl, ends);
  long = omega (arith, length_append w.edges (i ∷ []), w.long);
  holds = omega (arith, tokens_append g w.edges (i ∷ []), w.holds);
}

pub walks_keep_back : WalksKeepBack
unfolding firings
walks_keep_back g cap zero v fit below = record { start = v; edges = []; leads = refl; long = refl; holds = refl }
walks_keep_back g cap (suc k) v fit below = by_least (λ u less. walks_keep_back g cap k u fit less) (least_into_cases g.edges (firings g cap no_hold k) v (cap v))
  where
    now : ℕ
    now = least_into g.edges (firings g cap no_hold k) v (cap v)

    by_least : ((u : ℕ) → firings g cap no_hold k u < cap u → HasWalkOf g u k (firings g cap no_hold k u)) → (now ≡ cap v) ⊎ Allowing g.edges (firings g cap no_hold k) v now → HasWalkOf g v (suc k) now
    by_least before (inl is) = absurd (omega arith)
    by_least before (inr a) =
        let caps : cap (edge_at g a.edge).to ≤ cap (edge_at g a.edge).from + (edge_at g a.edge).tokens = fit a.edge a.within in
        let same : cap (edge_at g a.edge).to ≡ cap v = ap cap a.ends in
        let is : now ≡ firings g cap no_hold k (edge_at g a.edge).from + (edge_at g a.edge).tokens = a.is in
        let less : firings g cap no_hold k (edge_at g a.edge).from < cap (edge_at g a.edge).from = omega arith in
        subst (HasWalkOf g v (suc k)) (sym is) (goes_on g a.edge v k (firings g cap no_hold k (edge_at g a.edge).from) a.within a.ends (before (edge_at g a.edge).from less))

pub lag_bounds_firings : LagBoundsFirings
lag_bounds_firings g cap p q v lag k fit bounds below =
    let w = walks_keep_back g cap k v fit below in
    let bound : p * length w.edges ≤ lag + q * walk_tokens g w.edges = bounds w.start w.edges w.leads in
    let edges : p * length w.edges ≡ p * k = ap (λ (n : ℕ). p * n) w.long in
    let tokens : q * walk_tokens g w.edges ≡ q * firings g cap no_hold k v = ap (λ (n : ℕ). q * n) w.holds in
    omega arith

pub lag_bounds_cycles : LagBoundsCycles
lag_bounds_cycles g cap p q v lag fit bounds some_q some_p = first_at_cap g cap no_hold v (div_ceil (q * cap v + lag) p) (by_order (cases_lt (firings g cap no_hold (div_ceil (q * cap v + lag) p) v) (cap v)))
  where
    last : ℕ
    last = div_ceil (q * cap v + lag) p

    by_order : (firings g cap no_hold last v < cap v) ⊎ (cap v ≤ firings g cap no_hold last v) → firings g cap no_hold last v ≡ cap v
    by_order (inl less) =
        let enough : q * cap v + lag ≤ last * p = (div_ceil_times (q * cap v + lag) p (omega arith)).0 in
        let bound : p * last ≤ q * firings g cap no_hold last v + lag = lag_bounds_firings g cap p q v lag last fit bounds less in
        let more : q * (firings g cap no_hold last v + 1) ≤ q * cap v = mul-le-mul_left q (omega arith) in
        absurd (omega arith)
    by_order (inr more) = omega (arith, firings_cap g cap no_hold last v)
