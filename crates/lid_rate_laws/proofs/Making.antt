-- The part of one component.
use Rattle.std.proofs.Common.{◌≡◌, ℕ, zero, suc, ◌+◌, ◌-◌, ◌*◌, ◌^◌, ◌<◌, ◌≤◌, ◌≢◌, ◌==◌, ◌⊎◌, inl, inr, Bool, true, false, List, [], ◌∷◌, length, get_or, map, Option, None, refl, sym, ◌∙◌, ap, subst, arith}
use Rattle.std.specs.Prelude.{MatchOption}
use Rattle.std.specs.List.{All, IsDistinct, list_any}
use Rattle.std.specs.Cmp.{IsEquivalence}
use Rattle.std.proofs.lemmas.Bool.{cases_lt, cases_eq, eq-eqb, eqb-true, ne_eqb}
use Rattle.std.proofs.lemmas.List.{length-map, get_or-map, get_or_default}
use Rattle.std.proofs.lemmas.List.Elements.{All-map}
use Rattle.std.proofs.lemmas.List.Folds.{list_any_at}
use Rattle.std.proofs.lemmas.Map.Keys.{apart_from_distinct}
use Rattle.std.proofs.lemmas.Map.Made.{length-le_from_is_member}
use Rattle.std.proofs.Math.Nat.{mul-le-mul, mul-le-mul_left}
use Rattle.lid_graph.specs.declared.graph.Graph.{Graph}
use Rattle.lid_graph.specs.Walks.{no_edge, edge_at, walk_start, IsWalk, IsJoined}
use Rattle.lid_graph.specs.Ratios.{IsRatio, IsLag}
use Rattle.lid_graph.specs.Rateable.{IsRateable}
use Rattle.lid_graph.proofs.Journeys.{joined_step, joined_back}
use Rattle.lid_graph_laws.proofs.Alive.{ends_below}
use Rattle.lid_graph_ratio_laws.specs.Laws.{HasRatioAndLags}
use Rattle.lid_graph_ratio_laws.proofs.Single.{components_have_ratios}
use Rattle.lid_cert.specs.declared.cert.Part.{Part}
use Rattle.lid_cert.specs.Certificates.{has_node, lag_of, lead_of, depth_of, via_of, IsEdgeMet, IsStartMet, IsVia, IsNodeMet, IsPart, IsPartInRange}
use Rattle.lid_cert_text.specs.Printed.{IsSmall, IsSmallVia, IsPartSmall}
use Rattle.lid_rate_ratio.specs.Once.{MeetsOnce}
use Rattle.lid_rate.specs.Rates.{numbers_where, AreLabels, is_labelled, IsPartOf}
use Rattle.lid_rate.proofs.Components.{same_label, edge_label}
use Rattle.lid_rate.proofs.Finishing.{lead_enough}
use Rattle.lid_rate.proofs.Lagging.{lags_meet_rule}
use Rattle.lid_rate.proofs.NumbersWhere.{those_only, those_all, those_ascends, those_has, those_has_not, those_few, column_at}
use Rattle.lid_rate_laws.proofs.Rounds.{ends, HasRound, has_round, reaches_end}
use Rattle.lid_rate_laws.proofs.Depths as tree

-- all edges of a walk are edges
edges_within : (g : Graph) (u v : ℕ) (ks : List ℕ) → IsWalk g u ks v → All (λ k. k < length g.edges) ks
edges_within g u v [] walk i d h = absurd (omega arith)
edges_within g u v (k ∷ ks) walk zero d h = walk.0
edges_within g u v (k ∷ ks) walk (suc i) d h = edges_within g (edge_at g k).to v ks walk.2 i d (omega arith)

-- what is listed where no two edges end at the same transition
meets_once : (g : Graph) (ks : List ℕ) → IsDistinct (λ x y. x == y) (ends g ks) → MeetsOnce g ks
meets_once g ks once i j hi hj same = by_order (cases_lt i j) (cases_lt j i)
  where
    apart : (m n : ℕ) → m < n → n < length ks → (edge_at g (get_or ks m 0)).to ≡ (edge_at g (get_or ks n 0)).to → ⊥
    apart m n less within is =
        let long = length-map ks (λ k. (edge_at g k).to) in
        let at_m : get_or (ends g ks) m 0 ≡ (edge_at g (get_or ks m 0)).to = get_or-map (λ k. (edge_at g k).to) ks m 0 0 (omega arith) in
        let at_n : get_or (ends g ks) n 0 ≡ (edge_at g (get_or ks n 0)).to = get_or-map (λ k. (edge_at g k).to) ks n 0 0 within in
        let differ : get_or (ends g ks) m 0 == get_or (ends g ks) n 0 ≡ false = apart_from_distinct (λ x y. x == y) (ends g ks) m n 0 once less (omega arith) in
        let equal : get_or (ends g ks) m 0 == get_or (ends g ks) n 0 ≡ true = eq-eqb (get_or (ends g ks) m 0) (get_or (ends g ks) n 0) (at_m ∙ is ∙ sym at_n) in
        cc

    by_order : (i < j) ⊎ (j ≤ i) → (j < i) ⊎ (i ≤ j) → i ≡ j
    by_order (inl less) other = absurd (apart i j less hj same)
    by_order (inr most) (inl less) = absurd (apart j i less hi (sym same))
    by_order (inr most) (inr also) = omega arith

equality : IsEquivalence (λ (x y : ℕ). x == y)
equality = record { refl = λ x. eq-eqb x x refl; symm = λ x y. turned x y (cases_eq x y); congr = λ x y z is. ap (λ (n : ℕ). n == z) (eqb-true x y is) }
  where
    turned : (x y : ℕ) → (x ≡ y) ⊎ (x ≢ y) → (x == y) ≡ (y == x)
    turned x y (inl same) = eq-eqb x y same ∙ sym (eq-eqb y x (sym same))
    turned x y (inr other) = ne_eqb x y other ∙ sym (ne_eqb y x (λ same. other (sym same)))

-- what is made of one component
pub record HasPart (g : Graph) (least : List ℕ) (r : ℕ) : Type 0 where
  pub part : Part
  pub is : IsPartOf g least r part
  pub small : IsPartSmall part

module _ (g : Graph) (ok : IsRateable g) (least : List ℕ) (labels : AreLabels g least) (r : ℕ) (below : r < g.nodes) (own : get_or least r 0 ≡ r) where
  has : HasRatioAndLags g r
  has = components_have_ratios g r ok.paired below

  abbrev p : ℕ
  p = has.p

  abbrev q : ℕ
  q = has.q

  abbrev lag : ℕ → ℕ
  lag = has.lag

  ratio : IsRatio g r p q
  ratio = (has.each r ([], refl)).ratio

  round : HasRound g r p q
  round = has_round g r p q ratio

  abbrev start : ℕ
  start = walk_start g round.edges

  start_within : start < g.nodes
  start_within = ends_below g ok.paired r start round.near.1.0 round.near.1.1 below

  abbrev depth : ℕ → ℕ
  depth v = tree.depth g ok.paired start start_within v

  abbrev via : ℕ → Option ℕ
  via v = tree.via g ok.paired start start_within v

  -- enough for a walk of 16 tokens an edge
  abbrev lead : ℕ → ℕ
  lead v = (q - p) * (length round.edges - 1) + q * (16 * depth v)

  abbrev nodes : List ℕ
  nodes = numbers_where (is_labelled least r) (length least)

  abbrev part : Part
  part = record {
    nodes = nodes;
    p = p;
    q = q;
    cycle = round.edges;
    lag = map lag nodes;
    lead = map lead nodes;
    via = map via nodes;
    depth = map depth nodes;
  }

  -- a transition of the component
  record IsInside (v : ℕ) : Type 0 where
    within : v < g.nodes
    label : get_or least v 0 ≡ r

  count : length least ≡ g.nodes
  count = labels.count

  inside_has : (v : ℕ) → IsInside v → has_node part v ≡ true
  inside_has v in_it = those_has (is_labelled least r) (length least) v (let c = count in let w = in_it.within in omega arith) ∙ eq-eqb (get_or least v 0) r in_it.label

  has_inside : (v : ℕ) → has_node part v ≡ true → IsInside v
  has_inside v e = by_order (cases_lt v g.nodes)
    where
      by_order : (v < g.nodes) ⊎ (g.nodes ≤ v) → IsInside v
      by_order (inl h) = record { within = h; label = eqb-true (get_or least v 0) r (sym (those_has (is_labelled least r) (length least) v (let c = count in omega arith)) ∙ e) }
      by_order (inr h) =
          let none : has_node part v ≡ false = those_has_not (is_labelled least r) (length least) v (let c = count in omega arith) in
          cc

  inside_joined : (v : ℕ) → IsInside v → IsJoined g r v
  inside_joined v in_it =
      let to_label : IsJoined g v r = subst (IsJoined g v) in_it.label (labels.labels v in_it.within).joined in
      joined_back g ok.paired to_label.0 v r to_label.1

  joined_inside : (v : ℕ) → IsJoined g r v → IsInside v
  joined_inside v joined =
      let within : v < g.nodes = ends_below g ok.paired r v joined.0 joined.1 below in
      record { within = within; label = sym (same_label g ok least labels r v below within joined) ∙ own }

  from_start : (v : ℕ) → IsInside v → IsJoined g start v
  from_start v in_it = joined_step g start r v (joined_back g ok.paired round.near.1.0 r start round.near.1.1) (inside_joined v in_it)

  start_inside : IsInside start
  start_inside = joined_inside start round.near.1

  node_inside : (i : ℕ) → i < length nodes → IsInside (get_or nodes i 0)
  node_inside i h =
      let only = those_only (is_labelled least r) (length least) i h in
      record { within = omega (arith, only.0, count); label = eqb-true (get_or least (get_or nodes i 0) 0) r only.1 }

  node_of : (P : ℕ → Type 0) → ((v : ℕ) → IsInside v → P v) → All P nodes
  node_of P each i d h = subst P (sym (get_or_default nodes i d 0 h)) (each (get_or nodes i 0) (node_inside i h))

  low : (v : ℕ) → IsInside v → v < length least
  low v in_it = let c = count in let w = in_it.within in omega arith

  passes : (v : ℕ) → IsInside v → is_labelled least r v ≡ true
  passes v in_it = eq-eqb (get_or least v 0) r in_it.label

  -- what the part says of a transition
  lag_at : (v : ℕ) → IsInside v → lag_of part v ≡ lag v
  lag_at v in_it = column_at (is_labelled least r) (length least) v lag 0 (map lag nodes) refl (low v in_it) (passes v in_it)

  lead_at : (v : ℕ) → IsInside v → lead_of part v ≡ lead v
  lead_at v in_it = column_at (is_labelled least r) (length least) v lead 0 (map lead nodes) refl (low v in_it) (passes v in_it)

  depth_at : (v : ℕ) → IsInside v → depth_of part v ≡ depth v
  depth_at v in_it = column_at (is_labelled least r) (length least) v depth 0 (map depth nodes) refl (low v in_it) (passes v in_it)

  via_at : (v : ℕ) → IsInside v → via_of part v ≡ via v
  via_at v in_it = column_at (is_labelled least r) (length least) v via None (map via nodes) refl (low v in_it) (passes v in_it)

  edge_met : (k : ℕ) → k < length g.edges → IsEdgeMet part (edge_at g k)
  edge_met k h = record { stays = stays (has_node part (edge_at g k).from) (has_node part (edge_at g k).to) refl refl; lag = λ e. met (has_inside (edge_at g k).to e) }
    where
      from_within : (edge_at g k).from < g.nodes
      from_within = (ok.paired.ends k h).from

      to_within : (edge_at g k).to < g.nodes
      to_within = (ok.paired.ends k h).to

      same : get_or least (edge_at g k).from 0 ≡ get_or least (edge_at g k).to 0
      same = edge_label g ok least labels k h

      stays : (a b : Bool) → has_node part (edge_at g k).from ≡ a → has_node part (edge_at g k).to ≡ b → a ≡ b
      stays true true e f = refl
      stays false false e f = refl
      stays true false e f =
          let in_it = has_inside (edge_at g k).from e in
          let there = inside_has (edge_at g k).to (record { within = to_within; label = sym same ∙ in_it.label }) in
          sym there ∙ f
      stays false true e f =
          let in_it = has_inside (edge_at g k).to f in
          let here = inside_has (edge_at g k).from (record { within = from_within; label = same ∙ in_it.label }) in
          sym e ∙ here

      met : IsInside (edge_at g k).to → lag_of part (edge_at g k).from + p ≤ lag_of part (edge_at g k).to + q * (edge_at g k).tokens
      met to =
          let from : IsInside (edge_at g k).from = record { within = from_within; label = same ∙ to.label } in
          let rule : lag (edge_at g k).from + p ≤ lag (edge_at g k).to + q * (edge_at g k).tokens = lags_meet_rule g r p q lag (λ w j. (has.each w j).lagging) k h (inside_joined (edge_at g k).from from) in
          omega (arith, lag_at (edge_at g k).from from, lag_at (edge_at g k).to to)

  start_met : IsStartMet part start
  start_met = record {
    inside = inside_has start start_inside;
    depth = depth_at start start_inside ∙ tree.depth_start g ok.paired start start_within;
    via = via_at start start_inside ∙ tree.via_start g ok.paired start start_within;
    lead = (let enough = lead_enough p q (q - p) (length round.edges - 1) refl in omega (arith, lead_at start start_inside));
  }

  is_via : (v k : ℕ) → IsInside v → tree.IsBack g ok.paired start start_within v k → IsVia g part v k
  is_via v k in_it b =
      let from : IsInside (edge_at g k).from = joined_inside (edge_at g k).from (joined_step g r start (edge_at g k).from round.near.1 b.joined) in
      let few : (edge_at g k).tokens ≤ 16 = ok.tokens k b.within in
      let less : depth (edge_at g k).from < depth v = b.less in
      let scaled : q * (16 * depth (edge_at g k).from + (edge_at g k).tokens) ≤ q * (16 * depth v) = mul-le-mul_left q (omega arith) in
      record {
        within = b.within;
        ends = b.ends;
        begins = inside_has (edge_at g k).from from;
        depth = omega (arith, depth_at (edge_at g k).from from, depth_at v in_it);
        lead = omega (arith, lead_at (edge_at g k).from from, lead_at v in_it);
      }

  node_met : (v : ℕ) → IsInside v → IsNodeMet g part start v
  node_met v in_it other =
      subst (λ (o : Option ℕ). MatchOption o ⊥ (IsVia g part v)) (sym (via_at v in_it))
      (tree.via_is g ok.paired start start_within (IsVia g part v) v (λ k b. is_via v k in_it b) (from_start v in_it) other)

  some_nodes : 1 ≤ length nodes
  some_nodes = let at = those_all (is_labelled least r) (length least) r (omega (arith, count)) (eq-eqb (get_or least r 0) r own) in omega (arith, at.within)

  meets : IsPart g part
  meets = record {
    inside = record {
      some = some_nodes;
      lists = record { lag = length-map nodes lag; lead = length-map nodes lead; via = length-map nodes via; depth = length-map nodes depth };
      ascending = those_ascends (is_labelled least r) (length least);
      within = node_of (λ v. v < g.nodes) (λ v in_it. in_it.within);
      positive = ratio.positive;
      lowest = ratio.lowest;
      walk = round.near.0;
      ratio = omega (arith, round.same);
      start = start_met;
      nodes = node_of (IsNodeMet g part start) node_met;
    };
    edges = λ k d h. subst (IsEdgeMet part) (get_or_default g.edges k no_edge d h) (edge_met k h);
  }

  short : length round.edges ≤ length nodes
  short =
      let long = length-map round.edges (λ k. (edge_at g k).to) in
      let few : length (ends g round.edges) ≤ length nodes = length-le_from_is_member equality (ends g round.edges) nodes round.once listed in
      omega arith
    where
      listed : (v : ℕ) → list_any (λ x. v == x) (ends g round.edges) ≡ true → list_any (λ x. v == x) nodes ≡ true
      listed v is =
          let joined : IsJoined g start v = reaches_end g start start v round.edges round.near.0.closed is in
          let in_it = joined_inside v (joined_step g r start v round.near.1 joined) in
          let at = those_all (is_labelled least r) (length least) v (low v in_it) (passes v in_it) in
          list_any_at (λ x. v == x) nodes at.place 0 at.within (eq-eqb v (get_or nodes at.place 0) (sym at.is))

  few_nodes : length nodes ≤ 2 ^ 18
  few_nodes = let n = ok.nodes in omega (arith, count, those_few (is_labelled least r) (length least))

  in_range : IsPartInRange part
  in_range = record {
    p = (let a = has.slow in let b = has.short in let c = ok.nodes in omega arith);
    q = (let b = has.short in let c = ok.nodes in omega arith);
    lag = All-map (λ n. n < 2 ^ 62) lag nodes (node_of (λ v. lag v < 2 ^ 62) small_lag);
    lead = All-map (λ n. n < 2 ^ 62) lead nodes (node_of (λ v. lead v < 2 ^ 62) (λ v in_it. small_lead v));
  }
    where
      small_lag : (v : ℕ) → IsInside v → lag v < 2 ^ 62
      small_lag v in_it =
          let few : lag v ≤ p * (g.nodes - 1) = (has.each v (inside_joined v in_it)).few in
          let a = has.slow in
          let b = has.short in
          let c = ok.nodes in
          let most : p * (g.nodes - 1) ≤ 2 ^ 18 * 2 ^ 18 = mul-le-mul {n₂ = 2 ^ 18} {m₂ = 2 ^ 18} (omega arith) (omega arith) in
          omega arith

      small_lead : (v : ℕ) → lead v < 2 ^ 62
      small_lead v =
          let b = has.short in
          let c = ok.nodes in
          let d : depth v ≤ g.nodes = tree.depth_few g ok.paired start start_within v in
          let e = short in
          let f = few_nodes in
          let first : (q - p) * (length round.edges - 1) ≤ 2 ^ 18 * 2 ^ 18 = mul-le-mul {n₂ = 2 ^ 18} {m₂ = 2 ^ 18} (omega arith) (omega arith) in
          let rest : q * (16 * depth v) ≤ 2 ^ 18 * (16 * 2 ^ 18) = mul-le-mul {n₂ = 2 ^ 18} {m₂ = 16 * 2 ^ 18} (omega arith) (omega arith) in
          omega arith

  small : IsPartSmall part
  small = record {
    nodes = node_of IsSmall (λ v in_it. (let w = in_it.within in let c = ok.nodes in omega arith));
    cycle = λ i d h. (let w = edges_within g start start round.edges round.near.0.closed i d h in let c = ok.edges in omega arith);
    depth = All-map IsSmall depth nodes (node_of (λ v. IsSmall (depth v)) (λ v in_it. (let d = tree.depth_few g ok.paired start start_within v in let c = ok.nodes in omega arith)));
    via = All-map IsSmallVia via nodes (node_of (λ v. IsSmallVia (via v)) (λ v in_it. tree.via_some g ok.paired start start_within IsSmall v (λ k b. (let w = b.within in let c = ok.edges in omega arith))));
  }

  pub has_part : HasPart g least r
  has_part = record {
    part = part;
    is = record {
      nodes_are = refl;
      meets = meets;
      once = meets_once g round.edges round.once;
      short = short;
      in_range = in_range;
      lags = lags;
    };
    small = small;
  }
    where
      lags : (v : ℕ) → has_node part v ≡ true → IsLag g p q v (lag_of part v)
      lags v e = let in_it = has_inside v e in subst (IsLag g p q v) (sym (lag_at v in_it)) (has.each v (inside_joined v in_it)).lagging
