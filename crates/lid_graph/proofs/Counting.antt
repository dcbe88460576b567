-- Firing counts along edges and walks.
use Rattle.std.proofs.Common.{◌≡◌, ℕ, zero, suc, ◌+◌, ◌<◌, ◌≤◌, ◌==◌, ◌⊎◌, inl, inr, min, Bool, true, false, cond, List, [], ◌∷◌, length, get_or, refl, sym, ap, subst, add-zero, arith}
use Rattle.std.proofs.lemmas.Bool.{eqb-true, eq-eqb}
use Rattle.lid_graph.specs.declared.graph.Edge.{Edge}
use Rattle.lid_graph.specs.declared.graph.Graph.{Graph}
use Rattle.lid_graph.specs.Walks.{no_edge, edge_at, IsPaired, IsWalk, walk_tokens}
use Rattle.lid_graph.specs.Firings.{Counts, Hold, no_hold, least_into, firings}

pub least_into_most : (es : List Edge) (c : Counts) (v most : ℕ) → least_into es c v most ≤ most
unfolding least_into
least_into_most [] c v most = omega arith
least_into_most (e ∷ es) c v most = by_end (e.to == v) (least_into_most es c v most)
  where
    by_end : (b : Bool) → least_into es c v most ≤ most → cond b (min (c e.from + e.tokens) (least_into es c v most)) (least_into es c v most) ≤ most
    by_end true later = omega arith
    by_end false later = later

-- what an edge allows is no less
pub least_into_edge : (es : List Edge) (c : Counts) (v most k : ℕ) → k < length es → (get_or es k no_edge).to ≡ v → least_into es c v most ≤ c (get_or es k no_edge).from + (get_or es k no_edge).tokens
unfolding least_into
least_into_edge [] c v most k h ends = absurd (omega arith)
least_into_edge (e ∷ es) c v most zero h ends = by_end (e.to == v) (eq-eqb e.to v ends)
  where
    by_end : (b : Bool) → b ≡ true → cond b (min (c e.from + e.tokens) (least_into es c v most)) (least_into es c v most) ≤ c e.from + e.tokens
    by_end true is = omega arith
    by_end false is = cc
least_into_edge (e ∷ es) c v most (suc k) h ends = by_end (e.to == v) (least_into_edge es c v most k (omega arith) ends)
  where
    by_end : (b : Bool) → least_into es c v most ≤ c (get_or es k no_edge).from + (get_or es k no_edge).tokens → cond b (min (c e.from + e.tokens) (least_into es c v most)) (least_into es c v most) ≤ c (get_or es k no_edge).from + (get_or es k no_edge).tokens
    by_end true later = omega arith
    by_end false later = later

-- the least is one of them
pub record Allowing (es : List Edge) (c : Counts) (v least : ℕ) : Type 0 where
  pub edge : ℕ
  pub within : edge < length es
  pub ends : (get_or es edge no_edge).to ≡ v
  pub is : least ≡ c (get_or es edge no_edge).from + (get_or es edge no_edge).tokens

later_allows : (e : Edge) (es : List Edge) (c : Counts) (v least : ℕ) → Allowing es c v least → Allowing (e ∷ es) c v least
later_allows e es c v least a = record { edge = suc a.edge; within = omega arith; ends = a.ends; is = a.is }

pub least_into_cases : (es : List Edge) (c : Counts) (v most : ℕ) → (least_into es c v most ≡ most) ⊎ Allowing es c v (least_into es c v most)
unfolding least_into
least_into_cases [] c v most = inl refl
least_into_cases (e ∷ es) c v most = by_end (e.to == v) refl (least_into_cases es c v most)
  where
    this : ℕ → ℕ
    this later = min (c e.from + e.tokens) later

    by_order : (later : ℕ) → e.to ≡ v → (later ≡ most) ⊎ Allowing es c v later → (min (c e.from + e.tokens) later ≡ c e.from + e.tokens) ⊎ (min (c e.from + e.tokens) later ≡ later) → (min (c e.from + e.tokens) later ≡ most) ⊎ Allowing (e ∷ es) c v (min (c e.from + e.tokens) later)
    by_order later ends r (inl i) = inr (record { edge = 0; within = omega arith; ends = ends; is = i })
    by_order later ends (inl r) (inr i) = inl (omega arith)
    by_order later ends (inr r) (inr i) = inr (subst (Allowing (e ∷ es) c v) (sym i) (later_allows e es c v later r))

    min_cases : (a b : ℕ) → (min a b ≡ a) ⊎ (min a b ≡ b)
    min_cases a b = grind arith

    by_end : (b : Bool) → e.to == v ≡ b → (least_into es c v most ≡ most) ⊎ Allowing es c v (least_into es c v most) → (cond b (min (c e.from + e.tokens) (least_into es c v most)) (least_into es c v most) ≡ most) ⊎ Allowing (e ∷ es) c v (cond b (min (c e.from + e.tokens) (least_into es c v most)) (least_into es c v most))
    by_end true is later = by_order (least_into es c v most) (eqb-true e.to v is) later (min_cases (c e.from + e.tokens) (least_into es c v most))
    by_end false is (inl r) = inl r
    by_end false is (inr r) = inr (later_allows e es c v (least_into es c v most) r)

-- no transition fires beyond its cap, held or not
pub firings_cap : (g : Graph) (cap : Counts) (held : Hold) (k v : ℕ) → firings g cap held k v ≤ cap v
unfolding firings
firings_cap g cap held zero v = omega arith
firings_cap g cap held (suc k) v = by_hold (held k v) (firings_cap g cap held k v) (least_into_most g.edges (firings g cap held k) v (cap v))
  where
    by_hold : (b : Bool) → firings g cap held k v ≤ cap v → least_into g.edges (firings g cap held k) v (cap v) ≤ cap v → cond b (firings g cap held k v) (least_into g.edges (firings g cap held k) v (cap v)) ≤ cap v
    by_hold true before now = before
    by_hold false before now = now

-- in a cycle an edge lets its end come to no more than its beginning had, and its tokens
pub firings_edge : (g : Graph) (cap : Counts) (k i : ℕ) → i < length g.edges → firings g cap no_hold (suc k) (edge_at g i).to ≤ firings g cap no_hold k (edge_at g i).from + (edge_at g i).tokens
unfolding firings
firings_edge g cap k i h = least_into_edge g.edges (firings g cap no_hold k) (edge_at g i).to (cap (edge_at g i).to) i h refl

-- and along a walk, with a cycle for each edge
pub firings_walk : (g : Graph) (cap : Counts) (ks : List ℕ) (k u v : ℕ) → IsWalk g u ks v → firings g cap no_hold (k + length ks) v ≤ firings g cap no_hold k u + walk_tokens g ks
firings_walk g cap [] k u v walk = rw (add-zero, walk) (omega arith)
firings_walk g cap (i ∷ ks) k u v walk =
    let rest : firings g cap no_hold (suc k + length ks) v ≤ firings g cap no_hold (suc k) (edge_at g i).to + walk_tokens g ks = firings_walk g cap ks (suc k) (edge_at g i).to v walk.2 in
    let edge : firings g cap no_hold (suc k) (edge_at g i).to ≤ firings g cap no_hold k (edge_at g i).from + (edge_at g i).tokens = firings_edge g cap k i walk.0 in
    let same : firings g cap no_hold k (edge_at g i).from ≡ firings g cap no_hold k u = ap (firings g cap no_hold k) walk.1 in
    let long : suc k + length ks ≡ k + suc (length ks) = omega arith in
    let joined : firings g cap no_hold (suc k + length ks) v ≤ firings g cap no_hold k u + ((edge_at g i).tokens + walk_tokens g ks) = omega arith in
    subst (λ (n : ℕ). firings g cap no_hold n v ≤ firings g cap no_hold k u + ((edge_at g i).tokens + walk_tokens g ks)) long joined

-- nothing fires more than once a cycle
pub firings_cycles : (g : Graph) (cap : Counts) → IsPaired g → (k v : ℕ) → v < g.nodes → firings g cap no_hold k v ≤ k
unfolding firings
firings_cycles g cap paired zero v h = omega arith
firings_cycles g cap paired (suc k) v h =
    let self = paired.self v h in
    let before : firings g cap no_hold k v ≤ k = firings_cycles g cap paired k v h in
    let now = least_into_edge g.edges (firings g cap no_hold k) v (cap v) self.0 self.1 self.3 in
    let from : firings g cap no_hold k (edge_at g self.0).from ≡ firings g cap no_hold k v = ap (firings g cap no_hold k) self.2 in
    omega (arith, self.4)
