-- Firing counts rise, by at most one a cycle, as far as caps and edges allow.
use Rattle.std.proofs.Common.{◌≡◌, ℕ, zero, suc, ◌+◌, ◌-◌, ◌<◌, ◌≤◌, ◌⊎◌, inl, inr, min, Bool, true, false, cond, List, length, get_or, refl, sym, ap, subst, arith}
use Rattle.std.proofs.lemmas.Bool.{cases_eq, cases_lt}
use Rattle.lid_graph.specs.declared.graph.Edge.{Edge}
use Rattle.lid_graph.specs.declared.graph.Graph.{Graph}
use Rattle.lid_graph.specs.Walks.{no_edge, edge_at, IsPaired}
use Rattle.lid_graph.specs.Firings.{Counts, Hold, least_into, firings, IsFirstAtCap, AreFitCaps}
use Rattle.lid_graph.proofs.Counting.{Allowing, least_into_most, least_into_edge, least_into_cases, firings_cap}
use Rattle.lid_graph_laws.specs.Free.{free_firings}
use Rattle.lid_graph_laws.specs.Laws.{CountsNeverFall, CountsRiseByOne, CountsMeetCaps, EdgesAllow, CapsCutCounts}

-- greater counts allow no less
pub least_into_rises : (es : List Edge) (c d : Counts) (v m n : ℕ) → m ≤ n → ((u : ℕ) → c u ≤ d u) → least_into es c v m ≤ least_into es d v n
least_into_rises es c d v m n most less = by_least (least_into_cases es d v n)
  where
    by_least : (least_into es d v n ≡ n) ⊎ Allowing es d v (least_into es d v n) → least_into es c v m ≤ least_into es d v n
    by_least (inl is) = omega (arith, least_into_most es c v m)
    by_least (inr a) = omega (arith, least_into_edge es c v m a.edge a.within a.ends, less (get_or es a.edge no_edge).from, a.is)

module _ (g : Graph) (cap : Counts) (held : Hold) where
  abbrev Allow : ℕ → Type 0
  Allow k = (i : ℕ) → i < length g.edges → firings g cap held k (edge_at g i).to ≤ firings g cap held k (edge_at g i).from + (edge_at g i).tokens

  -- where the edges allow what stands, it does not fall
  rises_from : (k v : ℕ) → Allow k → firings g cap held k v ≤ firings g cap held (suc k) v
  unfolding firings
  rises_from k v allow = by_hold (held k v) (by_least (least_into_cases g.edges (firings g cap held k) v (cap v)))
    where
      by_least : (least_into g.edges (firings g cap held k) v (cap v) ≡ cap v) ⊎ Allowing g.edges (firings g cap held k) v (least_into g.edges (firings g cap held k) v (cap v)) → firings g cap held k v ≤ least_into g.edges (firings g cap held k) v (cap v)
      by_least (inl is) = omega (arith, firings_cap g cap held k v, is)
      by_least (inr a) =
          let same : firings g cap held k (edge_at g a.edge).to ≡ firings g cap held k v = ap (firings g cap held k) a.ends in
          omega (arith, allow a.edge a.within, a.is, same)

      by_hold : (b : Bool) → firings g cap held k v ≤ least_into g.edges (firings g cap held k) v (cap v) → firings g cap held k v ≤ cond b (firings g cap held k v) (least_into g.edges (firings g cap held k) v (cap v))
      by_hold true less = omega arith
      by_hold false less = less

  pub allows : (k : ℕ) → Allow k
  unfolding firings
  allows zero i h = omega arith
  allows (suc k) i h = by_hold (held k (edge_at g i).to) (allows k i h) (least_into_edge g.edges (firings g cap held k) (edge_at g i).to (cap (edge_at g i).to) i h refl) (rises_from k (edge_at g i).from (allows k))
    where
      by_hold : (b : Bool) → firings g cap held k (edge_at g i).to ≤ firings g cap held k (edge_at g i).from + (edge_at g i).tokens → least_into g.edges (firings g cap held k) (edge_at g i).to (cap (edge_at g i).to) ≤ firings g cap held k (edge_at g i).from + (edge_at g i).tokens → firings g cap held k (edge_at g i).from ≤ firings g cap held (suc k) (edge_at g i).from → cond b (firings g cap held k (edge_at g i).to) (least_into g.edges (firings g cap held k) (edge_at g i).to (cap (edge_at g i).to)) ≤ firings g cap held (suc k) (edge_at g i).from + (edge_at g i).tokens
      by_hold true before now more = omega arith
      by_hold false before now more = omega arith

  pub rises : (k v : ℕ) → firings g cap held k v ≤ firings g cap held (suc k) v
  rises k v = rises_from k v (allows k)

  pub rises_on : (j d v : ℕ) → firings g cap held j v ≤ firings g cap held (d + j) v
  rises_on j zero v =
      let same : 0 + j ≡ j = omega arith in
      subst (λ (n : ℕ). firings g cap held j v ≤ firings g cap held n v) (sym same) (omega arith)
  rises_on j (suc d) v =
      let same : suc d + j ≡ suc (d + j) = omega arith in
      subst (λ (n : ℕ). firings g cap held j v ≤ firings g cap held n v) (sym same) (omega (arith, rises_on j d v, rises (d + j) v))

  pub rises_by_one : IsPaired g → (k v : ℕ) → v < g.nodes → firings g cap held (suc k) v ≤ firings g cap held k v + 1
  unfolding firings
  rises_by_one paired k v h = by_hold (held k v) (least_into_edge g.edges (firings g cap held k) v (cap v) (paired.self v h).0 (paired.self v h).1 (paired.self v h).3) (ap (firings g cap held k) (paired.self v h).2) (paired.self v h).4
    where
      by_hold : (b : Bool) → least_into g.edges (firings g cap held k) v (cap v) ≤ firings g cap held k (edge_at g (paired.self v h).0).from + (edge_at g (paired.self v h).0).tokens → firings g cap held k (edge_at g (paired.self v h).0).from ≡ firings g cap held k v → (edge_at g (paired.self v h).0).tokens ≡ 1 → cond b (firings g cap held k v) (least_into g.edges (firings g cap held k) v (cap v)) ≤ firings g cap held k v + 1
      by_hold true now from one = omega arith
      by_hold false now from one = omega arith

-- the first cycle count at the cap, where some is
pub first_at_cap : (g : Graph) (cap : Counts) (held : Hold) (v n : ℕ) → firings g cap held n v ≡ cap v → (k : ℕ) × IsFirstAtCap g cap held v k × (k ≤ n)
first_at_cap g cap held v zero is = (0, record { reached = is; first = λ j e. omega arith }, omega arith)
first_at_cap g cap held v (suc n) is = by_before (cases_eq (firings g cap held n v) (cap v)) (λ e. first_at_cap g cap held v n e)
  where
    after : (firings g cap held n v ≡ cap v → ⊥) → (j : ℕ) → firings g cap held j v ≡ cap v → (n < j) ⊎ (j ≤ n) → suc n ≤ j
    after other j e (inl h) = h
    after other j e (inr h) =
        let same : (n - j) + j ≡ n = omega arith in
        let less : firings g cap held j v ≤ firings g cap held n v = subst (λ (i : ℕ). firings g cap held j v ≤ firings g cap held i v) same (rises_on g cap held j (n - j) v) in
        absurd (other (omega (arith, firings_cap g cap held n v)))

    by_before : (firings g cap held n v ≡ cap v) ⊎ (firings g cap held n v ≡ cap v → ⊥) → (firings g cap held n v ≡ cap v → (k : ℕ) × IsFirstAtCap g cap held v k × (k ≤ n)) → (k : ℕ) × IsFirstAtCap g cap held v k × (k ≤ suc n)
    by_before (inl e) before = ((before e).0, (before e).1, omega (arith, (before e).2))
    by_before (inr other) before = (suc n, record { reached = is; first = λ j e. after other j e (cases_lt n j) }, omega arith)

-- caps that fit the edges cut the counts
module _ (g : Graph) (cap : Counts) (held : Hold) (paired : IsPaired g) (fit : AreFitCaps g cap) where
  abbrev Cuts : ℕ → Type 0
  Cuts k = (v : ℕ) → v < g.nodes → firings g cap held k v ≡ min (cap v) (free_firings g held k v)

  cut_step : (k : ℕ) → Cuts k → Cuts (suc k)
  unfolding firings free_firings
  cut_step k before v h = by_hold (held k v) (before v h) (at_least (least_into_cases g.edges (firings g cap held k) v (cap v))) (at_most (least_into_cases g.edges (free_firings g held k) v (free_firings g held k v + 1)))
    where
      now : ℕ
      now = least_into g.edges (firings g cap held k) v (cap v)

      free : ℕ
      free = least_into g.edges (free_firings g held k) v (free_firings g held k v + 1)

      -- what an edge into v has at its beginning
      begins : (i : ℕ) → i < length g.edges → firings g cap held k (edge_at g i).from ≡ min (cap (edge_at g i).from) (free_firings g held k (edge_at g i).from)
      begins i within = before (edge_at g i).from (paired.ends i within).from

      at_least : (now ≡ cap v) ⊎ Allowing g.edges (firings g cap held k) v now → min (cap v) free ≤ now
      at_least (inl is) = omega (arith, is)
      at_least (inr a) =
          let from = begins a.edge a.within in
          let edge : free ≤ free_firings g held k (edge_at g a.edge).from + (edge_at g a.edge).tokens = least_into_edge g.edges (free_firings g held k) v (free_firings g held k v + 1) a.edge a.within a.ends in
          let caps : cap (edge_at g a.edge).to ≤ cap (edge_at g a.edge).from + (edge_at g a.edge).tokens = fit a.edge a.within in
          let same : cap (edge_at g a.edge).to ≡ cap v = ap cap a.ends in
          let is : now ≡ firings g cap held k (edge_at g a.edge).from + (edge_at g a.edge).tokens = a.is in
          omega (arith, from)

      below_edge : (i : ℕ) → i < length g.edges → (edge_at g i).to ≡ v → now ≤ free_firings g held k (edge_at g i).from + (edge_at g i).tokens
      below_edge i within ends =
          let edge : now ≤ firings g cap held k (edge_at g i).from + (edge_at g i).tokens = least_into_edge g.edges (firings g cap held k) v (cap v) i within ends in
          let from = begins i within in
          omega (arith, from)

      at_most : (free ≡ free_firings g held k v + 1) ⊎ Allowing g.edges (free_firings g held k) v free → now ≤ min (cap v) free
      at_most (inl is) =
          let self = paired.self v h in
          let edge = below_edge self.0 self.1 self.3 in
          let from : free_firings g held k (edge_at g self.0).from ≡ free_firings g held k v = ap (free_firings g held k) self.2 in
          let most : now ≤ cap v = least_into_most g.edges (firings g cap held k) v (cap v) in
          omega (arith, self.4)
      at_most (inr a) =
          let edge = below_edge a.edge a.within a.ends in
          let is : free ≡ free_firings g held k (edge_at g a.edge).from + (edge_at g a.edge).tokens = a.is in
          let most : now ≤ cap v = least_into_most g.edges (firings g cap held k) v (cap v) in
          omega arith

      by_hold : (b : Bool) → firings g cap held k v ≡ min (cap v) (free_firings g held k v) → min (cap v) free ≤ now → now ≤ min (cap v) free → cond b (firings g cap held k v) now ≡ min (cap v) (cond b (free_firings g held k v) free)
      by_hold true same lower upper = same
      by_hold false same lower upper = omega arith

  cut : (k : ℕ) → Cuts k
  unfolding firings free_firings
  cut zero v h = omega arith
  cut (suc k) v h = cut_step k (λ u below. cut k u below) v h

pub never_fall : CountsNeverFall
never_fall g cap held k v = rises g cap held k v

pub rise_by_one : CountsRiseByOne
rise_by_one g cap held k v paired h = rises_by_one g cap held paired k v h

pub meet_caps : CountsMeetCaps
meet_caps g cap held k v = firings_cap g cap held k v

pub edges_allow : EdgesAllow
edges_allow g cap held k i h = allows g cap held k i h

pub caps_cut : CapsCutCounts
caps_cut g cap held k v paired fit h = cut g cap held paired fit k v h
