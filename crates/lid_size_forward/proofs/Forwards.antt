-- The graph of a component's edges forth and self edges: its walks are the forward walks of the component.
use Rattle.std.proofs.Common.{◌≡◌, ℕ, suc, ◌+◌, ◌-◌, ◌*◌, ◌^◌, ◌<◌, ◌≤◌, ◌⊎◌, inl, inr, List, [], ◌∷◌, ◌++◌, length, get_or, refl, sym, ◌∙◌, ap, subst, arith}
use Rattle.std.specs.List.{All}
use Rattle.std.proofs.lemmas.Bool.{cases_lt, eq-eqb, eqb-true}
use Rattle.std.proofs.lemmas.List.{length-append, length-map, get_or-map, get_or_append_left, get_or-append-add, get_or_default}
use Rattle.std.proofs.lemmas.List.Elements.{All-nil, All-cons}
use Rattle.lid_graph.specs.declared.graph.Edge.{Edge}
use Rattle.lid_graph.specs.declared.graph.Graph.{Graph}
use Rattle.lid_graph.specs.Walks.{no_edge, edge_at, walk_start, walk_tokens, IsWalk, IsClosedWalk, IsJoined}
use Rattle.lid_graph.proofs.Journeys.{joined_back}
use Rattle.lid_rate_ratio.specs.Bounds.{MeetRule}
use Rattle.lid_rate_ratio.specs.Components.{IsSmallGraph, IsLoop, HasRate}
use Rattle.lid_rate_ratio.proofs.Searched.{keeps}
use Rattle.lid_stations.specs.Markings.{self_edge}
use Rattle.lid_rate.specs.Rates.{numbers_where, AreLabels, is_labelled}
use Rattle.lid_rate.proofs.NumbersWhere.{those_only, those_all, those_few}
use Rattle.lid_rate.proofs.Components.{same_label, edge_label}
use Rattle.lid_size_laws.specs.Capacities.{IsForward, IsForwardWalkNear, IsForwardRatio}
use Rattle.lid_size_forward.specs.ForwardParts.{HasStations, selves_of, forths_of, forward_part}

module _ (g : Graph) (n : ℕ) (has : HasStations g n) (least : List ℕ) (labels : AreLabels g least) (r : ℕ) (own : get_or least r 0 ≡ r) (r_within : r < g.nodes) where
  abbrev part : Graph
  part = forward_part g n least r

  abbrev Inside : ℕ → Type 0
  Inside v = get_or least v 0 ≡ r

  abbrev selfs : List ℕ
  selfs = numbers_where (is_labelled least r) (length least)

  abbrev forths : List ℕ
  forths = numbers_where (λ s. is_labelled least r (edge_at g (2 * s)).from) n

  selves_long : length (selves_of least r) ≡ length selfs
  selves_long = length-map selfs self_edge

  forths_long : length (forths_of g n least r) ≡ length forths
  forths_long = length-map forths (λ s. edge_at g (2 * s))

  part_long : length part.edges ≡ length selfs + length forths
  part_long = omega (arith, length-append (selves_of least r) (forths_of g n least r), selves_long, forths_long)

  self_at : (i : ℕ) → i < length selfs → edge_at part i ≡ self_edge (get_or selfs i 0)
  self_at i h = get_or_append_left (selves_of least r) (forths_of g n least r) no_edge i (omega (arith, selves_long)) ∙ get_or-map self_edge selfs i 0 no_edge h

  forth_at : (j : ℕ) → j < length forths → edge_at part (length selfs + j) ≡ edge_at g (2 * get_or forths j 0)
  forth_at j h =
      ap (λ (m : ℕ). get_or (selves_of least r ++ forths_of g n least r) (m + j) no_edge) (sym selves_long)
      ∙ (get_or-append-add (selves_of least r) (forths_of g n least r) j no_edge
      ∙ get_or-map (λ s. edge_at g (2 * s)) forths j 0 no_edge h)

  -- the edge of the graph that an edge of the part is
  record IsImage (i k : ℕ) : Type 0 where
    within : k < length g.edges
    forward : IsForward n k
    inside : Inside (edge_at g k).from
    is : edge_at part i ≡ edge_at g k

  image_self : (i : ℕ) → i < length selfs → (k : ℕ) × IsImage i k
  image_self i h =
      let only = those_only (is_labelled least r) (length least) i h in
      let v = get_or selfs i 0 in
      let c = labels.count in
      let low : get_or selfs i 0 < g.nodes = omega (arith, only.0) in
      let edge = has.selves v low in (
        2 * n + v,
        record {
          within = (let l = has.count in omega arith);
          forward = inr (omega arith);
          inside = ap (λ (e : Edge). get_or least e.from 0) edge ∙ eqb-true (get_or least (get_or selfs i 0) 0) r only.1;
          is = self_at i h ∙ sym edge;
        },
      )

  image_forth : (j : ℕ) → j < length forths → (k : ℕ) × IsImage (length selfs + j) k
  image_forth j h =
      let only = those_only (λ s. is_labelled least r (edge_at g (2 * s)).from) n j h in
      let s = get_or forths j 0 in
      let low = only.0 in (
        2 * s,
        record {
          within = (let l = has.count in omega arith);
          forward = inl (s, low, refl);
          inside = eqb-true (get_or least (edge_at g (2 * get_or forths j 0)).from 0) r only.1;
          is = forth_at j h;
        },
      )

  image : (i : ℕ) → i < length part.edges → (k : ℕ) × IsImage i k
  image i h = by_order (cases_lt i (length selfs))
    where
      by_order : (i < length selfs) ⊎ (length selfs ≤ i) → (k : ℕ) × IsImage i k
      by_order (inl early) = image_self i early
      by_order (inr late) =
          let l = part_long in
          let e : length selfs + (i - length selfs) ≡ i = omega arith in
          subst (λ (m : ℕ). (k : ℕ) × IsImage m k) e (image_forth (i - length selfs) (omega arith))

  stands : (k : ℕ) → k < length g.edges → IsForward n k → Inside (edge_at g k).from → (i : ℕ) × (i < length part.edges) × (edge_at part i ≡ edge_at g k)
  stands k h (inl forth) inside =
      let s = forth.0 in
      let is : k ≡ 2 * s = forth.2 in
      let label : get_or least (edge_at g (2 * s)).from 0 ≡ r = ap (λ (m : ℕ). get_or least (edge_at g m).from 0) (sym is) ∙ inside in
      let at = those_all (λ s. is_labelled least r (edge_at g (2 * s)).from) n s forth.1 (eq-eqb (get_or least (edge_at g (2 * s)).from 0) r label) in
      (length selfs + at.place, (let l = part_long in let w = at.within in omega arith), forth_at at.place at.within ∙ (ap (λ (m : ℕ). edge_at g (2 * m)) at.is ∙ ap (edge_at g) (sym is)))
  stands k h (inr late) inside =
      let c = has.count in
      let e : 2 * n + (k - 2 * n) ≡ k = omega arith in
      let low : k - 2 * n < g.nodes = omega arith in
      let edge : edge_at g k ≡ self_edge (k - 2 * n) = ap (edge_at g) (sym e) ∙ has.selves (k - 2 * n) low in
      let label : get_or least (k - 2 * n) 0 ≡ r = sym (ap (λ (e : Edge). get_or least e.from 0) edge) ∙ inside in
      let at = those_all (is_labelled least r) (length least) (k - 2 * n) (let l = labels.count in omega arith) (eq-eqb (get_or least (k - 2 * n) 0) r label) in
      (at.place, (let l = part_long in let w = at.within in omega arith), self_at at.place at.within ∙ (ap self_edge at.is ∙ sym edge))

  -- a forward walk of the component is one of the part
  record IsLowered (u v : ℕ) (ks : List ℕ) : Type 0 where
    steps : List ℕ
    walk : IsWalk part u steps v
    long : length steps ≡ length ks
    tokens : walk_tokens part steps ≡ walk_tokens g ks

  lowered : (ks : List ℕ) (u v : ℕ) → IsWalk g u ks v → All (IsForward n) ks → Inside u → IsLowered u v ks
  lowered [] u v walk forward inside = record { steps = []; walk = walk; long = refl; tokens = refl }
  lowered (k ∷ ks) u v walk forward inside =
      let from : Inside (edge_at g k).from = ap (λ (m : ℕ). get_or least m 0) walk.1 ∙ inside in
      let at = stands k walk.0 (forward 0 0 (omega arith)) from in
      let to : Inside (edge_at g k).to = sym (edge_label g has.rateable least labels k walk.0) ∙ from in
      let later = lowered ks (edge_at g k).to v walk.2 (λ i d l. forward (suc i) d (omega arith)) to in
      record {
        steps = at.0 ∷ later.steps;
        walk = (at.1, ap (λ (e : Edge). e.from) at.2 ∙ walk.1, subst (λ (m : ℕ). IsWalk part m later.steps v) (sym (ap (λ (e : Edge). e.to) at.2)) later.walk);
        long = ap suc later.long;
        tokens = (let here = ap (λ (e : Edge). e.tokens) at.2 in let rest = later.tokens in omega arith);
      }

  -- and a walk of the part is one of the graph, on forward edges
  record IsRaised (u v : ℕ) (steps : List ℕ) : Type 0 where
    ks : List ℕ
    walk : IsWalk g u ks v
    forward : All (IsForward n) ks
    long : length ks ≡ length steps
    tokens : walk_tokens g ks ≡ walk_tokens part steps
    inside : 0 < length steps → Inside u

  raised : (steps : List ℕ) (u v : ℕ) → IsWalk part u steps v → IsRaised u v steps
  raised [] u v walk = record { ks = []; walk = walk; forward = All-nil (IsForward n); long = refl; tokens = refl; inside = λ some. absurd (omega arith) }
  raised (i ∷ steps) u v walk =
      let at = image i walk.0 in
      let k = at.0 in
      let is : edge_at part i ≡ edge_at g k = (at.1).is in
      let later = raised steps (edge_at part i).to v walk.2 in
      let from : (edge_at g k).from ≡ u = sym (ap (λ (e : Edge). e.from) is) ∙ walk.1 in
      record {
        ks = k ∷ later.ks;
        walk = ((at.1).within, from, subst (λ (m : ℕ). IsWalk g m later.ks v) (ap (λ (e : Edge). e.to) is) later.walk);
        forward = All-cons (IsForward n) k later.ks (at.1).forward later.forward;
        long = ap suc later.long;
        tokens = (let here = ap (λ (e : Edge). e.tokens) is in let rest = later.tokens in omega arith);
        inside = λ some. ap (λ (m : ℕ). get_or least m 0) (sym from) ∙ (at.1).inside;
      }

  pub small_part : IsSmallGraph part
  small_part = record {
    nodes = has.rateable.nodes;
    edges = (let a = part_long in let b = those_few (is_labelled least r) (length least) in let c = those_few (λ s. is_labelled least r (edge_at g (2 * s)).from) n in let d = labels.count in let e = has.count in let f = has.rateable.edges in omega arith);
    from = λ i h. (let at = image i h in let end = (has.rateable.paired.ends at.0 (at.1).within).from in let same = ap (λ (e : Edge). e.from) (at.1).is in omega arith);
    to = λ i h. (let at = image i h in let end = (has.rateable.paired.ends at.0 (at.1).within).to in let same = ap (λ (e : Edge). e.to) (at.1).is in omega arith);
    tokens = λ i h. (let at = image i h in let few = has.rateable.tokens at.0 (at.1).within in let same = ap (λ (e : Edge). e.tokens) (at.1).is in omega arith);
  }

  pub first_loop : IsLoop part 0
  first_loop =
      let at = those_all (is_labelled least r) (length least) r (let c = labels.count in omega arith) (eq-eqb (get_or least r 0) r own) in
      let some : 0 < length selfs = (let w = at.within in omega arith) in
      let is = self_at 0 some in
      record {
        within = (let l = part_long in omega arith);
        loops = ap (λ (e : Edge). e.from) is ∙ sym (ap (λ (e : Edge). e.to) is);
        token = ap (λ (e : Edge). e.tokens) is;
      }

  -- a walk joins what has the label to r
  joined_label : (v : ℕ) → v < g.nodes → Inside v → IsJoined g r v
  joined_label v h inside =
      let to_r : IsJoined g v r = subst (IsJoined g v) inside (labels.labels v h).joined in
      joined_back g has.rateable.paired to_r.0 v r to_r.1

  start_of : (g : Graph) (ks : List ℕ) (u v : ℕ) → 0 < length ks → IsWalk g u ks v → walk_start g ks ≡ u
  start_of g [] u v some walk = absurd (omega arith)
  start_of g (k ∷ ks) u v some walk = walk.1

  start_low : (ks : List ℕ) (u v : ℕ) → 0 < length ks → IsWalk g u ks v → u < g.nodes
  start_low [] u v some walk = absurd (omega arith)
  start_low (k ∷ ks) u v some walk = (let e = (has.rateable.paired.ends k walk.0).from in let s = walk.1 in omega arith)

  module _ (p q : ℕ) (walk lags : List ℕ) (rate : HasRate part p q walk lags) where
    pub rate_small_p : p ≤ 2 ^ 22
    rate_small_p = let a = rate.cycle.few in let b = rate.cycle.short in let c = has.rateable.nodes in omega arith

    pub rate_small_q : q ≤ 2 ^ 18
    rate_small_q = let a = rate.cycle.lowest.least_q in let b = rate.cycle.short in let c = has.rateable.nodes in omega arith

    rule : MeetRule part p q lags
    rule = record { count = rate.are_lags.count; small = λ i d h. small i d h; met = rate.are_lags.met }
      where
        small : (i d : ℕ) → i < length lags → get_or lags i d ≤ 2 ^ 60
        small i d h = let s = rate.are_lags.small i in let e = get_or_default lags i d 0 h in omega arith

    all : (ks : List ℕ) → IsForwardWalkNear g n r ks → p * length ks ≤ q * walk_tokens g ks
    all ks near =
        let closed = (near.0).0 in
        let start = walk_start g ks in
        let low = start_low ks (walk_start g ks) (walk_start g ks) closed.some closed.closed in
        let inside : Inside (walk_start g ks) = sym (same_label g has.rateable least labels r (walk_start g ks) r_within low (near.0).1) ∙ own in
        let down = lowered ks (walk_start g ks) (walk_start g ks) closed.closed near.1 inside in
        let begins : walk_start part down.steps ≡ walk_start g ks = start_of part down.steps (walk_start g ks) (walk_start g ks) (let s = closed.some in let l = down.long in omega arith) down.walk in
        let round : IsClosedWalk part down.steps = record { some = (let s = closed.some in let l = down.long in omega arith); closed = subst (λ (m : ℕ). IsWalk part m down.steps m) (sym begins) down.walk } in
        let kept = (keeps part p q lags rule).walks down.steps round in
        let a : p * length down.steps ≡ p * length ks = ap (λ (m : ℕ). p * m) down.long in
        let b : q * walk_tokens part down.steps ≡ q * walk_tokens g ks = ap (λ (m : ℕ). q * m) down.tokens in
        omega arith

    some : (ks : List ℕ) × IsForwardWalkNear g n r ks × (q * walk_tokens g ks ≡ p * length ks)
    some =
        let closed = rate.cycle.closed in
        let at = walk_start part walk in
        let up = raised walk (walk_start part walk) (walk_start part walk) closed.closed in
        let full : 0 < length up.ks = (let s = closed.some in let l = up.long in omega arith) in
        let begins : walk_start g up.ks ≡ walk_start part walk = start_of g up.ks (walk_start part walk) (walk_start part walk) full up.walk in
        let round : IsClosedWalk g up.ks = record { some = full; closed = subst (λ (m : ℕ). IsWalk g m up.ks m) (sym begins) up.walk } in
        let low = start_low up.ks (walk_start part walk) (walk_start part walk) full up.walk in
        let joined : IsJoined g r (walk_start g up.ks) = subst (IsJoined g r) (sym begins) (joined_label (walk_start part walk) low (up.inside closed.some)) in
        let a : q * walk_tokens g up.ks ≡ q * walk_tokens part walk = ap (λ (m : ℕ). q * m) up.tokens in
        let b : p * length up.ks ≡ p * length walk = ap (λ (m : ℕ). p * m) up.long in
        (up.ks, ((round, joined), up.forward), a ∙ (rate.cycle.lowest.same ∙ sym b))

    pub forward_is : IsForwardRatio g n r p q
    forward_is = record { positive = rate.cycle.lowest.positive; lowest = rate.cycle.lowest.coprime; all = all; some = some }
