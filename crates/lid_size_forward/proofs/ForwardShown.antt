-- Closed walks that have the forward ratios of their components, and labels that show that none is lower.
use Rattle.std.proofs.Common.{◌≡◌, ℕ, suc, ◌+◌, ◌*◌, ◌^◌, ◌<◌, ◌≤◌, ◌≢◌, ◌⊎◌, inl, inr, List, [], ◌∷◌, ◌++◌, length, get_or, refl, sym, ◌∙◌, ap, subst, arith}
use Rattle.std.specs.List.{All}
use Rattle.std.proofs.lemmas.Bool.{cases_lt}
use Rattle.std.proofs.lemmas.List.{length-append, get_or_append_left}
use Rattle.std.proofs.Math.Seq.{get_or-append_seam}
use Rattle.lid_graph.specs.declared.graph.Edge.{Edge}
use Rattle.lid_graph.specs.declared.graph.Graph.{Graph}
use Rattle.lid_graph.specs.Walks.{edge_at, walk_start, walk_tokens, IsWalk, IsClosedWalk, IsJoined}
use Rattle.lid_graph.proofs.Journeys.{joined_step, joined_back}
use Rattle.lid_rate_ratio.specs.declared.lowest_terms.Ratio.{Ratio}
use Rattle.lid_rate_ratio.specs.CycleRatios.{IsLowest}
use Rattle.lid_rate.specs.Rates.{AreLabels}
use Rattle.lid_rate.proofs.Components.{same_label, edge_label}
use Rattle.lid_size_laws.specs.Capacities.{IsForward, IsForwardWalkNear}
use Rattle.lid_size_forward.specs.ForwardParts.{HasStations, AreForwardRatios, no_ratio}
use Rattle.lid_size_forward.specs.ForwardWalks.{HasForwardWalk, AreWalksBelow, IsForwardMet, MeetForwardRule}
use Rattle.lid_size_forward.proofs.Closed.{closed_start}

-- an edge that is met, and one edge more
pub met_at : (g : Graph) (wants : List Ratio) (labels : List ℕ) (k : ℕ) (e : Edge) → e ≡ edge_at g k → get_or labels e.from 0 + (get_or wants e.from no_ratio).p ≤ get_or labels e.to 0 + (get_or wants e.from no_ratio).q * e.tokens → IsForwardMet g wants labels k
met_at g wants labels k e is met =
    subst (λ (e : Edge). get_or labels e.from 0 + (get_or wants e.from no_ratio).p ≤ get_or labels e.to 0 + (get_or wants e.from no_ratio).q * e.tokens) is met

pub rule_push : (g : Graph) (n : ℕ) (wants : List Ratio) (labels : List ℕ) (k : ℕ) → ((j : ℕ) → j < k → IsForward n j → IsForwardMet g wants labels j) → (IsForward n k → IsForwardMet g wants labels k) → (j : ℕ) → j < k + 1 → IsForward n j → IsForwardMet g wants labels j
rule_push g n wants labels k before here j h forth = by_order (cases_lt j k)
  where
    by_order : (j < k) ⊎ (k ≤ j) → IsForwardMet g wants labels j
    by_order (inl early) = before j early forth
    by_order (inr late) = let is : k ≡ j = omega arith in subst (IsForwardMet g wants labels) is (here (subst (IsForward n) (sym is) forth))

module _ (g : Graph) (n : ℕ) (has : HasStations g n) (least : List ℕ) (labels : AreLabels g least) where
  label_low : (v : ℕ) → v < g.nodes → get_or least v 0 ≤ v
  label_low v h = (labels.labels v h).least v ([], refl)

  from_label : (v : ℕ) → v < g.nodes → IsJoined g (get_or least v 0) v
  from_label v h = let there = (labels.labels v h).joined in joined_back g has.rateable.paired there.0 v (get_or least v 0) there.1

  -- a closed forward walk that begins in the component
  pub forward_walk : (label : ℕ) (walk : List ℕ) (tokens : ℕ) (r : Ratio) → IsClosedWalk g walk → All (IsForward n) walk → get_or least (walk_start g walk) 0 ≡ label → tokens ≡ walk_tokens g walk → tokens ≤ 16 * length walk → length walk ≤ 2 ^ 18 → IsLowest tokens (length walk) r.p r.q → HasForwardWalk g n label r
  forward_walk label walk tokens r closed forward inside is few short lowest =
      let start = closed_start g walk has.rateable.paired closed in
      record {
        positive = lowest.positive;
        lowest = lowest.coprime;
        some = (walk, ((closed, subst (λ (m : ℕ). IsJoined g m (walk_start g walk)) inside (from_label (walk_start g walk) start)), forward), ap (λ (m : ℕ). r.q * m) (sym is) ∙ lowest.same);
        small_p = (let p = lowest.least_p in omega arith);
        small_q = (let q = lowest.least_q in omega arith);
      }

  spread : (v : ℕ) (r : Ratio) → v < g.nodes → HasForwardWalk g n (get_or least v 0) r → HasForwardWalk g n v r
  spread v r h one =
      let walk = one.some in
      let near = walk.1 in
      record {
        positive = one.positive;
        lowest = one.lowest;
        some = (walk.0, (((near.0).0, joined_step g v (get_or least v 0) (walk_start g walk.0) (labels.labels v h).joined (near.0).1), near.1), walk.2);
        small_p = one.small_p;
        small_q = one.small_q;
      }

  module _ (v : ℕ) (wants : List Ratio) (want : Ratio) (h : v < g.nodes) (so : AreWalksBelow g n least v wants) where
    early : (u : ℕ) → u < v → get_or (wants ++ want ∷ []) u no_ratio ≡ get_or wants u no_ratio
    early u l = get_or_append_left wants (want ∷ []) no_ratio u (let c = so.count in omega arith)

    late : get_or (wants ++ want ∷ []) v no_ratio ≡ want
    late = ap (λ (m : ℕ). get_or (wants ++ want ∷ []) m no_ratio) (sym so.count) ∙ get_or-append_seam wants want [] no_ratio

    push : HasForwardWalk g n v want → get_or (wants ++ want ∷ []) v no_ratio ≡ get_or (wants ++ want ∷ []) (get_or least v 0) no_ratio → AreWalksBelow g n least (v + 1) (wants ++ want ∷ [])
    push walk own = record {
      count = (let l = length-append wants (want ∷ []) in let c = so.count in omega arith);
      each = λ u l. each u l (cases_lt u v);
      same = λ u l. same u l (cases_lt u v);
    }
      where
        each : (u : ℕ) → u < v + 1 → (u < v) ⊎ (v ≤ u) → HasForwardWalk g n u (get_or (wants ++ want ∷ []) u no_ratio)
        each u l (inl less) = subst (HasForwardWalk g n u) (sym (early u less)) (so.each u less)
        each u l (inr more) =
            let is : v ≡ u = omega arith in
            subst (λ (m : ℕ). HasForwardWalk g n m (get_or (wants ++ want ∷ []) m no_ratio)) is (subst (HasForwardWalk g n v) (sym late) walk)

        same : (u : ℕ) → u < v + 1 → (u < v) ⊎ (v ≤ u) → get_or (wants ++ want ∷ []) u no_ratio ≡ get_or (wants ++ want ∷ []) (get_or least u 0) no_ratio
        same u l (inl less) =
            let low = label_low u (omega arith) in
            early u less ∙ (so.same u less ∙ sym (early (get_or least u 0) (omega arith)))
        same u l (inr more) =
            let is : v ≡ u = omega arith in
            subst (λ (m : ℕ). get_or (wants ++ want ∷ []) m no_ratio ≡ get_or (wants ++ want ∷ []) (get_or least m 0) no_ratio) is own

    -- the ratio of one more component, and of one more transition of a component
    pub walks_push : get_or least v 0 ≡ v → HasForwardWalk g n v want → AreWalksBelow g n least (v + 1) (wants ++ want ∷ [])
    walks_push own walk = push walk (ap (λ (m : ℕ). get_or (wants ++ want ∷ []) m no_ratio) (sym own))

    pub walks_copy : get_or least v 0 ≢ v → want ≡ get_or wants (get_or least v 0) no_ratio → AreWalksBelow g n least (v + 1) (wants ++ want ∷ [])
    walks_copy other is =
        let low : get_or least v 0 < v = (let a = label_low v h in omega arith) in
        push (spread v want h (subst (HasForwardWalk g n (get_or least v 0)) (sym is) (so.each (get_or least v 0) low))) (late ∙ (is ∙ sym (early (get_or least v 0) low)))

  module _ (wants : List Ratio) (numbers : List ℕ) (so : AreWalksBelow g n least g.nodes wants) (rule : MeetForwardRule g n wants numbers) where
    -- the numbers rise along forward walks of a component as its ratio asks
    along : (r : ℕ) (ks : List ℕ) (u v : ℕ) → IsWalk g u ks v → All (IsForward n) ks → get_or least u 0 ≡ r → get_or numbers u 0 + (get_or wants r no_ratio).p * length ks ≤ get_or numbers v 0 + (get_or wants r no_ratio).q * walk_tokens g ks
    along r [] u v walk forward inside = let same : get_or numbers u 0 ≡ get_or numbers v 0 = ap (λ (m : ℕ). get_or numbers m 0) walk in omega arith
    along r (k ∷ ks) u v walk forward inside =
        let from : get_or least (edge_at g k).from 0 ≡ r = ap (λ (m : ℕ). get_or least m 0) walk.1 ∙ inside in
        let to : get_or least (edge_at g k).to 0 ≡ r = sym (edge_label g has.rateable least labels k walk.0) ∙ from in
        let later = along r ks (edge_at g k).to v walk.2 (λ i d l. forward (suc i) d (omega arith)) to in
        let low = (has.rateable.paired.ends k walk.0).from in
        let want : get_or wants (edge_at g k).from no_ratio ≡ get_or wants r no_ratio = so.same (edge_at g k).from low ∙ ap (λ (m : ℕ). get_or wants m no_ratio) from in
        let met : get_or numbers (edge_at g k).from 0 + (get_or wants r no_ratio).p ≤ get_or numbers (edge_at g k).to 0 + (get_or wants r no_ratio).q * (edge_at g k).tokens = subst (λ (w : Ratio). get_or numbers (edge_at g k).from 0 + w.p ≤ get_or numbers (edge_at g k).to 0 + w.q * (edge_at g k).tokens) want (rule k walk.0 (forward 0 0 (omega arith))) in
        let here : get_or numbers (edge_at g k).from 0 ≡ get_or numbers u 0 = ap (λ (m : ℕ). get_or numbers m 0) walk.1 in
        omega arith

    kept : (v : ℕ) → v < g.nodes → (ks : List ℕ) → IsForwardWalkNear g n v ks → (get_or wants v no_ratio).p * length ks ≤ (get_or wants v no_ratio).q * walk_tokens g ks
    kept v h ks near =
        let closed = (near.0).0 in
        let start = closed_start g ks has.rateable.paired closed in
        let inside : get_or least (walk_start g ks) 0 ≡ get_or least v 0 = sym (same_label g has.rateable least labels v (walk_start g ks) h start (near.0).1) in
        let all = along (get_or least v 0) ks (walk_start g ks) (walk_start g ks) closed.closed near.1 inside in
        let here : (get_or wants (get_or least v 0) no_ratio).p * length ks ≤ (get_or wants (get_or least v 0) no_ratio).q * walk_tokens g ks = omega arith in
        subst (λ (w : Ratio). w.p * length ks ≤ w.q * walk_tokens g ks) (sym (so.same v h)) here

    pub shown_ratios : AreForwardRatios g n wants
    shown_ratios = record {
      count = so.count;
      each = λ v h. (let walk = so.each v h in record { positive = walk.positive; lowest = walk.lowest; all = kept v h; some = walk.some });
      small_p = λ v h. (so.each v h).small_p;
      small_q = λ v h. (so.each v h).small_q;
    }
