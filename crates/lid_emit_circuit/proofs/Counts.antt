-- Firing counts without caps: they rise, as far as the edges into a transition allow.
use Rattle.std.proofs.Common.{◌≡◌, ℕ, zero, suc, ◌+◌, ◌≤◌, ◌==◌, inl, inr, min, Bool, true, false, cond, List, [], ◌∷◌, refl, sym, ◌∙◌, ap, arith}
use Rattle.std.proofs.lemmas.Bool.{eqb-true, eq-eqb}
use Rattle.lid_base.specs.Lists.{Among}
use Rattle.lid_graph.specs.declared.graph.Edge.{Edge}
use Rattle.lid_graph.specs.declared.graph.Graph.{Graph}
use Rattle.lid_graph.specs.Firings.{Counts, Hold, least_into}
use Rattle.lid_graph.proofs.Counting.{least_into_most}
use Rattle.lid_graph_laws.specs.Free.{free_firings}

-- what is allowed is at most what each edge allows
pub least_among : (es : List Edge) (c : Counts) (v most : ℕ) (e : Edge) → Among e es → e.to ≡ v → least_into es c v most ≤ c e.from + e.tokens
unfolding least_into
least_among [] c v most e none to = absurd none
least_among (d ∷ es) c v most e (inl same) to = by_end (d.to == v) (eq-eqb d.to v (ap (λ (x : Edge). x.to) (sym same) ∙ to))
  where
    by_end : (b : Bool) → b ≡ true → cond b (min (c d.from + d.tokens) (least_into es c v most)) (least_into es c v most) ≤ c e.from + e.tokens
    by_end true is = let from : c e.from + e.tokens ≡ c d.from + d.tokens = ap (λ (x : Edge). c x.from + x.tokens) same in omega arith
    by_end false is = cc
least_among (d ∷ es) c v most e (inr there) to = by_end (d.to == v) (least_among es c v most e there to)
  where
    by_end : (b : Bool) → least_into es c v most ≤ c e.from + e.tokens → cond b (min (c d.from + d.tokens) (least_into es c v most)) (least_into es c v most) ≤ c e.from + e.tokens
    by_end true later = omega arith
    by_end false later = later

-- and at least what all of them allow
pub least_above : (es : List Edge) (c : Counts) (v most n : ℕ) → n ≤ most → ((e : Edge) → Among e es → e.to ≡ v → n ≤ c e.from + e.tokens) → n ≤ least_into es c v most
unfolding least_into
least_above [] c v most n h each = h
least_above (e ∷ es) c v most n h each = by_end (e.to == v) refl (least_above es c v most n h (λ d i. each d (inr i)))
  where
    by_end : (b : Bool) → e.to == v ≡ b → n ≤ least_into es c v most → n ≤ cond b (min (c e.from + e.tokens) (least_into es c v most)) (least_into es c v most)
    by_end true is later = omega (arith, each e (inl refl) (eqb-true e.to v is))
    by_end false is later = later

module _ (g : Graph) (held : Hold) where
  abbrev count : ℕ → Counts
  count k = free_firings g held k

  abbrev Allow : ℕ → Type 0
  Allow k = (e : Edge) → Among e g.edges → count k e.to ≤ count k e.from + e.tokens

  rises_from : (k v : ℕ) → Allow k → count k v ≤ count (suc k) v
  unfolding free_firings
  rises_from k v allow = by_hold (held k v) (least_above g.edges (count k) v (count k v + 1) (count k v) (omega arith) each)
    where
      each : (e : Edge) → Among e g.edges → e.to ≡ v → count k v ≤ count k e.from + e.tokens
      each e i to = let same : count k e.to ≡ count k v = ap (count k) to in omega (arith, allow e i)

      by_hold : (b : Bool) → count k v ≤ least_into g.edges (count k) v (count k v + 1) → count k v ≤ cond b (count k v) (least_into g.edges (count k) v (count k v + 1))
      by_hold true less = omega arith
      by_hold false less = less

  -- no edge is left behind
  pub allows : (k : ℕ) → Allow k
  unfolding free_firings
  allows zero e i = omega arith
  allows (suc k) e i = by_hold (held k e.to) (allows k e i) (least_among g.edges (count k) e.to (count k e.to + 1) e i refl) (rises_from k e.from (allows k))
    where
      by_hold : (b : Bool) → count k e.to ≤ count k e.from + e.tokens → least_into g.edges (count k) e.to (count k e.to + 1) ≤ count k e.from + e.tokens → count k e.from ≤ count (suc k) e.from → cond b (count k e.to) (least_into g.edges (count k) e.to (count k e.to + 1)) ≤ count (suc k) e.from + e.tokens
      by_hold true before now more = omega arith
      by_hold false before now more = omega arith

  pub never_falls : (k v : ℕ) → count k v ≤ count (suc k) v
  never_falls k v = rises_from k v (allows k)

  pub begins_at : (v : ℕ) → count 0 v ≡ 0
  unfolding free_firings
  begins_at v = refl

  pub stays : (k v : ℕ) → held k v ≡ true → count (suc k) v ≡ count k v
  unfolding free_firings
  stays k v is = ap (λ (b : Bool). cond b (count k v) (least_into g.edges (count k) v (count k v + 1))) is

  pub comes : (k v : ℕ) → held k v ≡ false → count (suc k) v ≡ least_into g.edges (count k) v (count k v + 1)
  unfolding free_firings
  comes k v is = ap (λ (b : Bool). cond b (count k v) (least_into g.edges (count k) v (count k v + 1))) is

  pub most_one : (k v : ℕ) → count (suc k) v ≤ count k v + 1
  unfolding free_firings
  most_one k v = by_hold (held k v) (least_into_most g.edges (count k) v (count k v + 1))
    where
      by_hold : (b : Bool) → least_into g.edges (count k) v (count k v + 1) ≤ count k v + 1 → cond b (count k v) (least_into g.edges (count k) v (count k v + 1)) ≤ count k v + 1
      by_hold true less = omega arith
      by_hold false less = less
