-- Edges and ratios that are taken one after the other.
use Rattle.std.proofs.Common.{◌≡◌, ℕ, ◌+◌, ◌*◌, ◌^◌, ◌<◌, ◌≤◌, ◌≢◌, ◌⊎◌, inl, inr, Bool, true, false, cond, List, [], ◌∷◌, ◌++◌, length, get_or, map, refl, sym, ◌∙◌, ap, subst, append_assoc, add-one, arith}
use Rattle.std.proofs.lemmas.Bool.{cases_lt, eq-eqb, ne_eqb}
use Rattle.std.proofs.lemmas.List.{length-append, map-append, get_or_append_left}
use Rattle.std.proofs.Math.Seq.{get_or-append_seam}
use Rattle.lid_graph.specs.declared.graph.Edge.{Edge}
use Rattle.lid_graph.specs.declared.graph.Graph.{Graph}
use Rattle.lid_graph.specs.Walks.{edge_at}
use Rattle.lid_graph.proofs.Journeys.{joined_back}
use Rattle.lid_rate_ratio.specs.declared.lowest_terms.Ratio.{Ratio}
use Rattle.lid_rate.specs.Rates.{numbers_where, AreLabels, is_labelled}
use Rattle.lid_size_laws.specs.Capacities.{IsForwardRatio}
use Rattle.lid_size_laws.proofs.Forward.{ratios_spread}
use Rattle.lid_size_forward.specs.ForwardParts.{HasStations, AreRatiosBelow, no_ratio}

-- the numbers that pass a test, one further
more_yes : (f : ℕ → Edge) (p : ℕ → Bool) (k : ℕ) → p k ≡ true → map f (numbers_where p (k + 1)) ≡ map f (numbers_where p k) ++ f k ∷ []
more_yes f p k pass =
    ap (λ (m : ℕ). map f (numbers_where p m)) (add-one k)
    ∙ (ap (λ (b : Bool). map f (cond b (numbers_where p k ++ k ∷ []) (numbers_where p k))) pass
    ∙ map-append f (numbers_where p k) (k ∷ []))

more_no : (f : ℕ → Edge) (p : ℕ → Bool) (k : ℕ) → p k ≡ false → map f (numbers_where p (k + 1)) ≡ map f (numbers_where p k)
more_no f p k fail =
    ap (λ (m : ℕ). map f (numbers_where p m)) (add-one k)
    ∙ ap (λ (b : Bool). map f (cond b (numbers_where p k ++ k ∷ []) (numbers_where p k))) fail

module _ (g : Graph) (least : List ℕ) (r : ℕ) where
  abbrev forths : ℕ → List Edge
  forths k = map (λ s. edge_at g (2 * s)) (numbers_where (λ s. is_labelled least r (edge_at g (2 * s)).from) k)

  pub forths_push : (k : ℕ) (old es : List Edge) (e : Edge) → e ≡ edge_at g (2 * k) → get_or least e.from 0 ≡ r → es ≡ old ++ forths k → es ++ e ∷ [] ≡ old ++ forths (k + 1)
  forths_push k old es e is label so =
      ap (λ (xs : List Edge). xs ++ e ∷ []) so
      ∙ (append_assoc old (forths k) (e ∷ [])
      ∙ (ap (λ (x : Edge). old ++ (forths k ++ x ∷ [])) is
      ∙ ap (λ (xs : List Edge). old ++ xs) (sym (more_yes (λ s. edge_at g (2 * s)) (λ s. is_labelled least r (edge_at g (2 * s)).from) k (eq-eqb (get_or least (edge_at g (2 * k)).from 0) r (ap (λ (x : Edge). get_or least x.from 0) (sym is) ∙ label))))))

  pub forths_skip : (k : ℕ) (old es : List Edge) (e : Edge) → e ≡ edge_at g (2 * k) → get_or least e.from 0 ≢ r → es ≡ old ++ forths k → es ≡ old ++ forths (k + 1)
  forths_skip k old es e is label so =
      so ∙ ap (λ (xs : List Edge). old ++ xs) (sym (more_no (λ s. edge_at g (2 * s)) (λ s. is_labelled least r (edge_at g (2 * s)).from) k (ne_eqb (get_or least (edge_at g (2 * k)).from 0) r (λ same. label (ap (λ (x : Edge). get_or least x.from 0) is ∙ same)))))

module _ (g : Graph) (n : ℕ) where
  -- one more ratio
  pub ratios_push : (v : ℕ) (wants : List Ratio) (want : Ratio) → AreRatiosBelow g n v wants → IsForwardRatio g n v want.p want.q → want.p ≤ 2 ^ 22 → want.q ≤ 2 ^ 18 → AreRatiosBelow g n (v + 1) (wants ++ want ∷ [])
  ratios_push v wants want so is small_p small_q = record {
    count = (let l = length-append wants (want ∷ []) in let c = so.count in omega arith);
    each = λ u h. by_place (λ u r. IsForwardRatio g n u r.p r.q) u h so.each is (cases_lt u v);
    small_p = λ u h. by_place (λ u r. r.p ≤ 2 ^ 22) u h so.small_p small_p (cases_lt u v);
    small_q = λ u h. by_place (λ u r. r.q ≤ 2 ^ 18) u h so.small_q small_q (cases_lt u v);
  }
    where
      by_place : (P : ℕ → Ratio → Type 0) (u : ℕ) → u < v + 1 → ((u : ℕ) → u < v → P u (get_or wants u no_ratio)) → P v want → (u < v) ⊎ (v ≤ u) → P u (get_or (wants ++ want ∷ []) u no_ratio)
      by_place P u h each here (inl early) = subst (P u) (sym (get_or_append_left wants (want ∷ []) no_ratio u (let c = so.count in omega arith))) (each u early)
      by_place P u h each here (inr late) =
          let is_v : u ≡ v = omega arith in
          let place : u ≡ length wants = (let c = so.count in omega arith) in
          let at : get_or (wants ++ want ∷ []) u no_ratio ≡ want = ap (λ (m : ℕ). get_or (wants ++ want ∷ []) m no_ratio) place ∙ get_or-append_seam wants want [] no_ratio in
          subst (P u) (sym at) (subst (λ (m : ℕ). P m want) (sym is_v) here)

  module _ (has : HasStations g n) (least : List ℕ) (labels : AreLabels g least) where
    -- the least transition of a component has no greater number
    pub label_low : (v : ℕ) → v < g.nodes → get_or least v 0 ≤ v
    label_low v h = (labels.labels v h).least v ([], refl)

    -- the ratio of the least transition is that of all
    pub ratios_copy : (v : ℕ) (wants : List Ratio) (want : Ratio) → v < g.nodes → get_or least v 0 ≢ v → want ≡ get_or wants (get_or least v 0) no_ratio → AreRatiosBelow g n v wants → AreRatiosBelow g n (v + 1) (wants ++ want ∷ [])
    ratios_copy v wants want h other is so =
        let l = get_or least v 0 in
        let low : get_or least v 0 < v = (let a = label_low v h in omega arith) in
        let to_least = (labels.labels v h).joined in
        let joined = joined_back g has.rateable.paired to_least.0 v (get_or least v 0) to_least.1 in
        let ratio = ratios_spread n g (get_or least v 0) v (get_or wants (get_or least v 0) no_ratio).p (get_or wants (get_or least v 0) no_ratio).q has.rateable.paired joined (so.each (get_or least v 0) low) in
        ratios_push v wants want so
        (subst (λ (r : Ratio). IsForwardRatio g n v r.p r.q) (sym is) ratio)
        (subst (λ (r : Ratio). r.p ≤ 2 ^ 22) (sym is) (so.small_p (get_or least v 0) low))
        (subst (λ (r : Ratio). r.q ≤ 2 ^ 18) (sym is) (so.small_q (get_or least v 0) low))
