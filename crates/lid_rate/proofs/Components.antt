-- The piece of a component, and the part that it gives.
use Rattle.std.proofs.Common.{◌≡◌, ℕ, zero, suc, ◌+◌, ◌-◌, ◌*◌, ◌^◌, ◌<◌, ◌≤◌, ◌≢◌, ◌==◌, ◌⊎◌, inl, inr, true, false, List, [], ◌∷◌, length, get_or, map, position, Option, Some, None, is_some, option_map, refl, sym, ◌∙◌, ap, subst, arith}
use Rattle.std.specs.List.{Contains}
use Rattle.std.specs.Option.{MatchOption, option_map_or}
use Rattle.std.specs.Int.{IsGcd}
use Rattle.std.proofs.lemmas.Bool.{cases_lt, eq-eqb, eqb-true}
use Rattle.std.proofs.lemmas.List.{length-map, get_or-map, get_or_default}
use Rattle.lid_graph.specs.declared.graph.Graph.{Graph}
use Rattle.lid_graph.specs.Walks.{no_edge, edge_at, walk_start, walk_tokens, IsWalk, IsClosedWalk, IsJoined}
use Rattle.lid_graph.specs.Ratios.{IsLag}
use Rattle.lid_graph.proofs.Journeys.{joined_step, joined_back}
use Rattle.lid_cert.specs.declared.cert.Part.{Part}
use Rattle.lid_cert.specs.Certificates.{place_in, has_node, lag_of, lead_of, depth_of, via_of, AreLists, IsEdgeMet, IsStartMet, IsVia, IsNodeMet, IsPart, ascends}
use Rattle.lid_cert.proofs.Ascending.{rises_pair, place_found}
use Rattle.lid_cert.proofs.Parts.{lag_along, stays_back}
use Rattle.lid_rate_ratio.specs.Once.{MeetsOnce}
use Rattle.lid_rate_ratio.specs.Components.{IsSmallGraph, IsLoop, AreAllJoined, IsBranch}
use Rattle.lid_graph.specs.Rateable.{IsRateable}
use Rattle.lid_rate.specs.Rates.{numbers_where, AreLabels, is_labelled, edges_of, IsPartOf, IsLoopAt}
use Rattle.lid_rate.specs.Pieces.{IsInnerEdge, IsPiece, IsFoundOfPiece, IsLifted}
use Rattle.lid_rate.proofs.NumbersWhere.{Stands, those_only, those_all, those_ascends, those_has, those_has_not, those_few}

module _ (g : Graph) (ok : IsRateable g) (least : List ℕ) (labels : AreLabels g least) where
  pub same_label : (u v : ℕ) → u < g.nodes → v < g.nodes → IsJoined g u v → get_or least u 0 ≡ get_or least v 0
  same_label u v hu hv joined =
      let at_u = labels.labels u hu in
      let at_v = labels.labels v hv in
      let back = joined_back g ok.paired joined.0 u v joined.1 in
      let a : get_or least u 0 ≤ get_or least v 0 = at_u.least (get_or least v 0) (joined_step g u v (get_or least v 0) joined at_v.joined) in
      let b : get_or least v 0 ≤ get_or least u 0 = at_v.least (get_or least u 0) (joined_step g v u (get_or least u 0) back at_u.joined) in
      omega arith

  pub edge_label : (k : ℕ) → k < length g.edges → get_or least (edge_at g k).from 0 ≡ get_or least (edge_at g k).to 0
  edge_label k h = same_label (edge_at g k).from (edge_at g k).to ((ok.paired.ends k h).from) ((ok.paired.ends k h).to) (k ∷ [], (h, refl, refl))

  -- what has one label is joined
  joined_by : (u v : ℕ) → u < g.nodes → v < g.nodes → get_or least u 0 ≡ get_or least v 0 → IsJoined g u v
  joined_by u v hu hv same =
      let to_label : IsJoined g u (get_or least u 0) = (labels.labels u hu).joined in
      let from_v : IsJoined g v (get_or least v 0) = (labels.labels v hv).joined in
      let back : IsJoined g (get_or least v 0) v = joined_back g ok.paired from_v.0 v (get_or least v 0) from_v.1 in
      joined_step g u (get_or least u 0) v to_label (subst (λ (n : ℕ). IsJoined g n v) (sym same) back)

  module _ (r : ℕ) (own : get_or least r 0 ≡ r) (r_within : r < g.nodes) where
    abbrev Inside : ℕ → Type 0
    Inside v = get_or least v 0 ≡ r

    pub edge_listed : (k : ℕ) → k < length g.edges → Inside (edge_at g k).from → Stands (edges_of g least r) k
    edge_listed k h inside = those_all (λ k. is_labelled least r (edge_at g k).from) (length g.edges) k h (eq-eqb (get_or least (edge_at g k).from 0) r inside)

    -- the transitions of the piece, and its edges
    pub node_is : (i : ℕ) → i < length (numbers_where (is_labelled least r) (length least)) → (get_or (numbers_where (is_labelled least r) (length least)) i 0 < g.nodes) × Inside (get_or (numbers_where (is_labelled least r) (length least)) i 0)
    node_is i h =
        let only = those_only (is_labelled least r) (length least) i h in
        let count = labels.count in
        (omega (arith, only.0), eqb-true (get_or least (get_or (numbers_where (is_labelled least r) (length least)) i 0) 0) r only.1)

    pub node_stands : (v : ℕ) → v < g.nodes → Inside v → Stands (numbers_where (is_labelled least r) (length least)) v
    node_stands v h inside = those_all (is_labelled least r) (length least) v (let c = labels.count in omega arith) (eq-eqb (get_or least v 0) r inside)

    pub edge_is : (i : ℕ) → i < length (edges_of g least r) → (get_or (edges_of g least r) i 0 < length g.edges) × Inside (edge_at g (get_or (edges_of g least r) i 0)).from
    edge_is i h =
        let only = those_only (λ k. is_labelled least r (edge_at g k).from) (length g.edges) i h in
        (only.0, eqb-true (get_or least (edge_at g (get_or (edges_of g least r) i 0)).from 0) r only.1)

    contains : (xs : List ℕ) (v : ℕ) → Stands xs v → Contains xs v
    contains xs v at = (at.place, at.within, get_or_default xs at.place v 0 at.within ∙ at.is)

    pub nodes_ascend : ascends (numbers_where (is_labelled least r) (length least)) ≡ true
    nodes_ascend = those_ascends (is_labelled least r) (length least)

    pub edges_ascend : ascends (edges_of g least r) ≡ true
    edges_ascend = those_ascends (λ k. is_labelled least r (edge_at g k).from) (length g.edges)

    pub few_nodes : length (numbers_where (is_labelled least r) (length least)) ≤ 2 ^ 18
    few_nodes = let n = ok.nodes in let c = labels.count in let few = those_few (is_labelled least r) (length least) in omega arith

    pub few_edges : length (edges_of g least r) < 2 ^ 19
    few_edges = let e = ok.edges in let few = those_few (λ k. is_labelled least r (edge_at g k).from) (length g.edges) in omega arith

    pub edges_inside : (i : ℕ) → i < length (edges_of g least r) → IsInnerEdge g (numbers_where (is_labelled least r) (length least)) (get_or (edges_of g least r) i 0)
    edges_inside i h =
        let at = edge_is i h in
        let k = get_or (edges_of g least r) i 0 in
        record {
          within = at.0;
          from = contains (numbers_where (is_labelled least r) (length least)) (edge_at g k).from (node_stands (edge_at g k).from ((ok.paired.ends k at.0).from) at.1);
          to = contains (numbers_where (is_labelled least r) (length least)) (edge_at g k).to (node_stands (edge_at g k).to ((ok.paired.ends k at.0).to) (sym (edge_label k at.0) ∙ at.1));
        }

    pub loop_listed : (k : ℕ) → IsLoopAt g r k → Contains (edges_of g least r) k
    loop_listed k loop = contains (edges_of g least r) k (edge_listed k loop.within (ap (λ (n : ℕ). get_or least n 0) loop.from ∙ own))

    -- each transition stands in one place
    one_place : (i j : ℕ) → i < length (numbers_where (is_labelled least r) (length least)) → j < length (numbers_where (is_labelled least r) (length least)) → get_or (numbers_where (is_labelled least r) (length least)) i 0 ≡ get_or (numbers_where (is_labelled least r) (length least)) j 0 → i ≡ j
    one_place i j hi hj same = by_order (cases_lt i j) (cases_lt j i)
      where
        by_order : (i < j) ⊎ (j ≤ i) → (j < i) ⊎ (i ≤ j) → i ≡ j
        by_order (inl less) more = let pair = rises_pair (numbers_where (is_labelled least r) (length least)) 0 i j nodes_ascend less hj in absurd (omega arith)
        by_order (inr a) (inl less) = let pair = rises_pair (numbers_where (is_labelled least r) (length least)) 0 j i nodes_ascend less hi in absurd (omega arith)
        by_order (inr a) (inr b) = omega arith

    module _ (piece : Graph) (cut : IsPiece g (numbers_where (is_labelled least r) (length least)) (edges_of g least r) piece) where
      abbrev node : ℕ → ℕ
      node i = get_or (numbers_where (is_labelled least r) (length least)) i 0

      abbrev number : ℕ → ℕ
      number k = get_or (edges_of g least r) k 0

      pub small_piece : IsSmallGraph piece
      small_piece = record {
        nodes = (let c = cut.node_count in let f = few_nodes in omega arith);
        edges = (let c = cut.edge_count in let f = few_edges in omega arith);
        from = λ k h. (let c = cut.node_count in let e = cut.edge_count in let f = (cut.images k (omega arith)).from_within in omega arith);
        to = λ k h. (let c = cut.node_count in let e = cut.edge_count in let f = (cut.images k (omega arith)).to_within in omega arith);
        tokens = λ k h. (let e = cut.edge_count in let at = edge_is k (omega arith) in let few = ok.tokens (number k) at.0 in let t = (cut.images k (omega arith)).tokens in omega arith);
      }

      pub piece_loop : (k j : ℕ) → IsLoopAt g r k → j < length (edges_of g least r) → number j ≡ k → IsLoop piece j
      piece_loop k j loop h is =
          let image = cut.images j h in
          let from : node (edge_at piece j).from ≡ r = image.from ∙ (ap (λ (n : ℕ). (edge_at g n).from) is ∙ loop.from) in
          let to : node (edge_at piece j).to ≡ r = image.to ∙ (ap (λ (n : ℕ). (edge_at g n).to) is ∙ loop.to) in
          record {
            within = (let c = cut.edge_count in omega arith);
            loops = one_place (edge_at piece j).from (edge_at piece j).to image.from_within image.to_within (from ∙ sym to);
            token = image.tokens ∙ (ap (λ (n : ℕ). (edge_at g n).tokens) is ∙ loop.token);
          }

      -- a walk of the graph from a transition of the component is one of the piece
      lowered : (ks : List ℕ) (u v a : ℕ) → IsWalk g u ks v → a < length (numbers_where (is_labelled least r) (length least)) → node a ≡ u → (b : ℕ) × (b < length (numbers_where (is_labelled least r) (length least))) × (node b ≡ v) × IsJoined piece a b
      lowered [] u v a walk h at = (a, h, at ∙ walk, ([], refl))
      lowered (k ∷ ks) u v a walk h at =
          let inside : Inside (edge_at g k).from = ap (λ (n : ℕ). get_or least n 0) (walk.1 ∙ sym at) ∙ (node_is a h).1 in
          let stands = edge_listed k walk.0 inside in
          let image = cut.images stands.place stands.within in
          let from : node (edge_at piece stands.place).from ≡ (edge_at g k).from = image.from ∙ ap (λ (n : ℕ). (edge_at g n).from) stands.is in
          let to : node (edge_at piece stands.place).to ≡ (edge_at g k).to = image.to ∙ ap (λ (n : ℕ). (edge_at g n).to) stands.is in
          let begins : (edge_at piece stands.place).from ≡ a = one_place (edge_at piece stands.place).from a image.from_within h (from ∙ (walk.1 ∙ sym at)) in
          let later = lowered ks (edge_at g k).to v (edge_at piece stands.place).to walk.2 image.to_within to in
          let within : stands.place < length piece.edges = (let w = stands.within in let c = cut.edge_count in omega arith) in
          (later.0, later.1, later.2, (stands.place ∷ later.3.0, (within, begins, later.3.1)))

      pub all_joined : (a : ℕ) → a < piece.nodes → AreAllJoined piece a
      all_joined a h b l =
          let c = cut.node_count in
          let at_a = node_is a (omega arith) in
          let at_b = node_is b (omega arith) in
          let way = joined_by (node a) (node b) at_a.0 at_b.0 (at_a.1 ∙ sym at_b.1) in
          let low = lowered way.0 (node a) (node b) a way.1 (omega arith) refl in
          subst (IsJoined piece a) (one_place low.0 b low.1 (omega arith) low.2) low.3

      -- a walk of the piece is one of the graph
      raised : (ks : List ℕ) (a b : ℕ) → IsWalk piece a ks b → IsWalk g (node a) (map number ks) (node b)
      raised [] a b walk = ap node walk
      raised (k ∷ ks) a b walk =
          let h : k < length (edges_of g least r) = (let c = cut.edge_count in let w = walk.0 in omega arith) in
          let image = cut.images k h in
          let rest = raised ks (edge_at piece k).to b walk.2 in
          ((edge_is k h).0, sym image.from ∙ ap node walk.1, subst (λ (n : ℕ). IsWalk g n (map number ks) (node b)) image.to rest)

      same_tokens : (ks : List ℕ) (a b : ℕ) → IsWalk piece a ks b → walk_tokens g (map number ks) ≡ walk_tokens piece ks
      same_tokens [] a b walk = refl
      same_tokens (k ∷ ks) a b walk =
          let h : k < length (edges_of g least r) = (let c = cut.edge_count in let w = walk.0 in omega arith) in
          let here = (cut.images k h).tokens in
          let rest = same_tokens ks (edge_at piece k).to b walk.2 in
          omega arith

      raised_start : (ks : List ℕ) (a b : ℕ) → IsWalk piece a ks b → 0 < length ks → walk_start g (map number ks) ≡ node (walk_start piece ks)
      raised_start [] a b walk some = absurd (omega arith)
      raised_start (k ∷ ks) a b walk some = sym (cut.images k (let c = cut.edge_count in let w = walk.0 in omega arith)).from

      walk_within : (ks : List ℕ) (a b i : ℕ) → IsWalk piece a ks b → i < length ks → get_or ks i 0 < length (edges_of g least r)
      walk_within [] a b i walk h = absurd (omega arith)
      walk_within (k ∷ ks) a b zero walk h = let c = cut.edge_count in let w = walk.0 in omega arith
      walk_within (k ∷ ks) a b (suc i) walk h = walk_within ks (edge_at piece k).to b i walk.2 (omega arith)

      raised_once : (ks : List ℕ) (a b : ℕ) → IsWalk piece a ks b → MeetsOnce piece ks → MeetsOnce g (map number ks)
      raised_once ks a b walk once i j hi hj same =
          let long = length-map ks number in
          let at_i : get_or (map number ks) i 0 ≡ number (get_or ks i 0) = get_or-map number ks i 0 0 (omega arith) in
          let at_j : get_or (map number ks) j 0 ≡ number (get_or ks j 0) = get_or-map number ks j 0 0 (omega arith) in
          let image_i = cut.images (get_or ks i 0) (walk_within ks a b i walk (omega arith)) in
          let image_j = cut.images (get_or ks j 0) (walk_within ks a b j walk (omega arith)) in
          let ends : (edge_at g (number (get_or ks i 0))).to ≡ (edge_at g (number (get_or ks j 0))).to = ap (λ (n : ℕ). (edge_at g n).to) (sym at_i) ∙ (same ∙ ap (λ (n : ℕ). (edge_at g n).to) at_j) in
          once i j (omega arith) (omega arith) (one_place (edge_at piece (get_or ks i 0)).to (edge_at piece (get_or ks j 0)).to image_i.to_within image_j.to_within (image_i.to ∙ (ends ∙ sym image_j.to)))

      module _ (p q : ℕ) (walk lags : List ℕ) (via : List (Option ℕ)) (lead depth : List ℕ) (is_found : IsFoundOfPiece piece p q walk lags via lead depth) (part : Part) (lift : IsLifted (numbers_where (is_labelled least r) (length least)) (edges_of g least r) p q walk lags via lead depth part) where
        abbrev start : ℕ
        start = walk_start piece walk

        has : (v : ℕ) → v < g.nodes → has_node part v ≡ is_labelled least r v
        has v h = ap (λ (l : List ℕ). is_some (position (λ n. n == v) l)) lift.nodes_are ∙ those_has (is_labelled least r) (length least) v (let c = labels.count in omega arith)

        has_inside : (v : ℕ) → v < g.nodes → Inside v → has_node part v ≡ true
        has_inside v h inside = has v h ∙ eq-eqb (get_or least v 0) r inside

        inside_has : (v : ℕ) → has_node part v ≡ true → (v < g.nodes) × Inside v
        inside_has v e = by_order (cases_lt v g.nodes)
          where
            by_order : (v < g.nodes) ⊎ (g.nodes ≤ v) → (v < g.nodes) × Inside v
            by_order (inl h) = (h, eqb-true (get_or least v 0) r (sym (has v h) ∙ e))
            by_order (inr h) =
                let none : has_node part v ≡ false = ap (λ (l : List ℕ). is_some (position (λ n. n == v) l)) lift.nodes_are ∙ those_has_not (is_labelled least r) (length least) v (let c = labels.count in omega arith) in
                cc

        -- what the part says of the transition in a place
        placed : (a v : ℕ) → a < length (numbers_where (is_labelled least r) (length least)) → node a ≡ v → place_in part v ≡ Some a
        placed a v h is = ap (λ (l : List ℕ). position (λ n. n == v) l) lift.nodes_are ∙ place_found (numbers_where (is_labelled least r) (length least)) v a nodes_ascend h is

        lag_at : (a v : ℕ) → a < length (numbers_where (is_labelled least r) (length least)) → node a ≡ v → lag_of part v ≡ get_or lags a 0
        lag_at a v h is = ap (λ (o : Option ℕ). option_map_or (λ i. get_or part.lag i 0) o 0) (placed a v h is) ∙ ap (λ (l : List ℕ). get_or l a 0) lift.lag_is

        lead_at : (a v : ℕ) → a < length (numbers_where (is_labelled least r) (length least)) → node a ≡ v → lead_of part v ≡ get_or lead a 0
        lead_at a v h is = ap (λ (o : Option ℕ). option_map_or (λ i. get_or part.lead i 0) o 0) (placed a v h is) ∙ ap (λ (l : List ℕ). get_or l a 0) lift.lead_is

        depth_at : (a v : ℕ) → a < length (numbers_where (is_labelled least r) (length least)) → node a ≡ v → depth_of part v ≡ get_or depth a 0
        depth_at a v h is = ap (λ (o : Option ℕ). option_map_or (λ i. get_or part.depth i 0) o 0) (placed a v h is) ∙ ap (λ (l : List ℕ). get_or l a 0) lift.depth_is

        via_at : (a v : ℕ) → a < length (numbers_where (is_labelled least r) (length least)) → node a ≡ v → via_of part v ≡ option_map number (get_or via a None)
        via_at a v h is =
            let count = is_found.tree.lists.via_count in
            let c = cut.node_count in
            ap (λ (o : Option ℕ). option_map_or (λ i. get_or part.via i None) o None) (placed a v h is) ∙ (ap (λ (l : List (Option ℕ)). get_or l a None) lift.via_is ∙ get_or-map (λ o. option_map number o) via a None None (omega arith))

        lists : AreLists part
        lists =
            let c = cut.node_count in
            let n : length part.nodes ≡ length (numbers_where (is_labelled least r) (length least)) = ap length lift.nodes_are in
            let lag : length part.lag ≡ length lags = ap length lift.lag_is in
            let leads : length part.lead ≡ length lead = ap length lift.lead_is in
            let vias : length part.via ≡ length via = ap length lift.via_is ∙ length-map via (λ o. option_map number o) in
            let depths : length part.depth ≡ length depth = ap length lift.depth_is in
            record {
              lag = (let l = is_found.rate.are_lags.count in omega arith);
              lead = (let l = is_found.tree.lists.lead_count in omega arith);
              via = (let l = is_found.tree.lists.via_count in omega arith);
              depth = (let l = is_found.tree.lists.depth_count in omega arith);
            }

        edge_met : (k : ℕ) → k < length g.edges → IsEdgeMet part (edge_at g k)
        edge_met k h = record {
          stays = has (edge_at g k).from ((ok.paired.ends k h).from) ∙ (ap (λ (n : ℕ). n == r) (edge_label k h) ∙ sym (has (edge_at g k).to ((ok.paired.ends k h).to)));
          lag = λ e. met (inside_has (edge_at g k).to e);
        }
          where
            met : ((edge_at g k).to < g.nodes) × Inside (edge_at g k).to → lag_of part (edge_at g k).from + part.p ≤ lag_of part (edge_at g k).to + part.q * (edge_at g k).tokens
            met to =
                let stands = edge_listed k h (edge_label k h ∙ to.1) in
                let image = cut.images stands.place stands.within in
                let rule : get_or lags (edge_at piece stands.place).from 0 + p ≤ get_or lags (edge_at piece stands.place).to 0 + q * (edge_at piece stands.place).tokens = is_found.rate.are_lags.met stands.place (let c = cut.edge_count in let w = stands.within in omega arith) in
                let low = lag_at (edge_at piece stands.place).from (edge_at g k).from image.from_within (image.from ∙ ap (λ (n : ℕ). (edge_at g n).from) stands.is) in
                let high = lag_at (edge_at piece stands.place).to (edge_at g k).to image.to_within (image.to ∙ ap (λ (n : ℕ). (edge_at g n).to) stands.is) in
                let scaled : part.q * (edge_at g k).tokens ≡ q * (edge_at piece stands.place).tokens = ap (λ (n : ℕ). n * (edge_at g k).tokens) lift.q_is ∙ ap (λ (n : ℕ). q * n) (sym (image.tokens ∙ ap (λ (n : ℕ). (edge_at g n).tokens) stands.is)) in
                let p_is = lift.p_is in
                omega arith

        closed : IsWalk piece start walk start
        closed = is_found.rate.cycle.closed.closed

        start_within : start < length (numbers_where (is_labelled least r) (length least))
        start_within = let c = cut.node_count in at walk start is_found.rate.cycle.closed.some closed
          where
            at : (ks : List ℕ) (b : ℕ) → 0 < length ks → IsWalk piece (walk_start piece ks) ks b → walk_start piece ks < length (numbers_where (is_labelled least r) (length least))
            at [] b some way = absurd (omega arith)
            at (k ∷ ks) b some way = (cut.images k (let c = cut.edge_count in let w = way.0 in omega arith)).from_within

        start_is : walk_start g part.cycle ≡ node start
        start_is = ap (walk_start g) lift.cycle_is ∙ raised_start walk start start closed is_found.rate.cycle.closed.some

        long : length part.cycle ≡ length walk
        long = ap length lift.cycle_is ∙ length-map walk number

        is_closed : IsClosedWalk g part.cycle
        is_closed = record {
          some = (let s = is_found.rate.cycle.closed.some in let l = long in omega arith);
          closed = subst (λ (n : ℕ). IsWalk g n part.cycle n) (sym start_is) (subst (λ (l : List ℕ). IsWalk g (node start) l (node start)) (sym lift.cycle_is) (raised walk start start closed));
        }

        ratio_part : walk_tokens g part.cycle * part.q ≡ part.p * length part.cycle
        ratio_part =
            let lowest = is_found.rate.cycle.lowest.same in
            let tokens : walk_tokens g part.cycle ≡ walk_tokens piece walk = ap (walk_tokens g) lift.cycle_is ∙ same_tokens walk start start closed in
            let a : walk_tokens g part.cycle * part.q ≡ walk_tokens piece walk * q = ap (λ (n : ℕ). n * part.q) tokens ∙ ap (λ (n : ℕ). walk_tokens piece walk * n) lift.q_is in
            let b : part.p * length part.cycle ≡ p * length walk = ap (λ (n : ℕ). part.p * n) long ∙ ap (λ (n : ℕ). n * length walk) lift.p_is in
            omega arith

        start_met : IsStartMet part (walk_start g part.cycle)
        start_met = subst (IsStartMet part) (sym start_is) (record {
          inside = (let at = node_is start start_within in has_inside (node start) at.0 at.1);
          depth = depth_at start (node start) start_within refl ∙ is_found.tree.root.no_depth;
          via = via_at start (node start) start_within refl ∙ ap (λ (o : Option ℕ). option_map number o) is_found.tree.root.no_edge;
          lead = start_lead;
        })
          where
            start_lead : part.q * (length part.cycle - 1) ≤ lead_of part (node start) + part.p * (length part.cycle - 1)
            start_lead =
                let is = lead_at start (node start) start_within refl ∙ is_found.tree.root.first_lead in
                let a : part.q * (length part.cycle - 1) ≡ q * (length walk - 1) = ap (λ (n : ℕ). n * (length part.cycle - 1)) lift.q_is ∙ ap (λ (n : ℕ). q * (n - 1)) long in
                let b : part.p * (length part.cycle - 1) ≡ p * (length walk - 1) = ap (λ (n : ℕ). n * (length part.cycle - 1)) lift.p_is ∙ ap (λ (n : ℕ). p * (n - 1)) long in
                let e = is_found.enough in
                omega arith

        is_via : (a k : ℕ) → a < length (numbers_where (is_labelled least r) (length least)) → IsBranch piece q lead depth a k → IsVia g part (node a) (number k)
        is_via a k h branch =
            let l : k < length (edges_of g least r) = (let w = branch.within in let c = cut.edge_count in omega arith) in
            let image = cut.images k l in
            let at = edge_is k l in
            let from = (ok.paired.ends (number k) at.0).from in
            let deep = branch.deeper in
            let leads = branch.leads in
            let depth_v = depth_at a (node a) h refl in
            let depth_u = depth_at (edge_at piece k).from (edge_at g (number k)).from image.from_within image.from in
            let lead_v = lead_at a (node a) h refl in
            let lead_u = lead_at (edge_at piece k).from (edge_at g (number k)).from image.from_within image.from in
            let scaled : part.q * (edge_at g (number k)).tokens ≡ q * (edge_at piece k).tokens = ap (λ (n : ℕ). n * (edge_at g (number k)).tokens) lift.q_is ∙ ap (λ (n : ℕ). q * n) (sym image.tokens) in
            record {
              within = at.0;
              ends = sym image.to ∙ ap node branch.ends;
              begins = has_inside (edge_at g (number k)).from from at.1;
              depth = omega arith;
              lead = omega arith;
            }

        node_met : (a : ℕ) → a < length (numbers_where (is_labelled least r) (length least)) → IsNodeMet g part (walk_start g part.cycle) (node a)
        node_met a h other =
            let c = cut.node_count in
            let not_start : a ≢ start = (λ same. other (ap node same ∙ sym start_is)) in
            subst (λ (o : Option ℕ). MatchOption o ⊥ (IsVia g part (node a))) (sym (via_at a (node a) h refl)) (by_via (get_or via a None) (is_found.tree.branches a (omega arith) not_start))
          where
            by_via : (o : Option ℕ) → MatchOption o ⊥ (IsBranch piece q lead depth a) → MatchOption (option_map number o) ⊥ (IsVia g part (node a))
            by_via None none = none
            by_via (Some k) branch = is_via a k h branch

        part_node : (i d : ℕ) → i < length part.nodes → (i < length (numbers_where (is_labelled least r) (length least))) × (get_or part.nodes i d ≡ node i)
        part_node i d h =
            let l : i < length (numbers_where (is_labelled least r) (length least)) = subst (λ (xs : List ℕ). i < length xs) lift.nodes_are h in
            (l, get_or_default part.nodes i d 0 h ∙ ap (λ (xs : List ℕ). get_or xs i 0) lift.nodes_are)

        is_part : IsPart g part
        is_part = record {
          inside = record {
            some = (let s = start_within in let e = ap length lift.nodes_are in omega arith);
            lists = lists;
            ascending = ap ascends lift.nodes_are ∙ nodes_ascend;
            within = λ i d h. (let at = part_node i d h in subst (λ (n : ℕ). n < g.nodes) (sym at.1) (node_is i at.0).0);
            positive = (let o = is_found.rate.cycle.lowest.positive in let e = lift.q_is in omega arith);
            lowest = subst (λ (n : ℕ). IsGcd n part.q 1) (sym lift.p_is) (subst (λ (n : ℕ). IsGcd p n 1) (sym lift.q_is) is_found.rate.cycle.lowest.coprime);
            walk = is_closed;
            ratio = ratio_part;
            start = start_met;
            nodes = λ i d h. (let at = part_node i d h in subst (IsNodeMet g part (walk_start g part.cycle)) (sym at.1) (node_met i at.0));
          };
          edges = λ k d h. subst (IsEdgeMet part) (get_or_default g.edges k no_edge d h) (edge_met k h);
        }

        lag_of_node : (v : ℕ) → has_node part v ≡ true → IsLag g part.p part.q v (lag_of part v)
        lag_of_node v e = record {
          all = λ u ks walk_is. (let along = lag_along g part is_part ks u v walk_is (stays_back g part is_part ks u v walk_is e) in omega arith);
          some = by_place (let at = inside_has v e in node_stands v at.0 at.1);
        }
          where
            by_place : Stands (numbers_where (is_labelled least r) (length least)) v → (u : ℕ) × (ks : List ℕ) × IsWalk g u ks v × (part.p * length ks ≡ lag_of part v + part.q * walk_tokens g ks)
            by_place at =
                let c = cut.node_count in
                let way = is_found.rate.are_lags.asked at.place (let w = at.within in omega arith) in
                let is = lag_at at.place v at.within at.is in
                let far : p * length way.1 ≡ get_or lags at.place 0 + q * walk_tokens piece way.1 = way.3 in
                let tokens : part.q * walk_tokens g (map number way.1) ≡ q * walk_tokens piece way.1 = ap (λ (n : ℕ). n * walk_tokens g (map number way.1)) lift.q_is ∙ ap (λ (n : ℕ). q * n) (same_tokens way.1 way.0 at.place way.2) in
                let steps : part.p * length (map number way.1) ≡ p * length way.1 = ap (λ (n : ℕ). n * length (map number way.1)) lift.p_is ∙ ap (λ (n : ℕ). p * n) (length-map way.1 number) in
                (node way.0, map number way.1, subst (IsWalk g (node way.0) (map number way.1)) at.is (raised way.1 way.0 at.place way.2), omega arith)

        pub part_of_label : IsPartOf g least r part
        part_of_label = record {
          nodes_are = lift.nodes_are;
          meets = is_part;
          once = subst (MeetsOnce g) (sym lift.cycle_is) (raised_once walk start start closed is_found.rate.cycle.once);
          short = (let l = long in let s = is_found.rate.cycle.short in let c = cut.node_count in let n : length part.nodes ≡ length (numbers_where (is_labelled least r) (length least)) = ap length lift.nodes_are in omega arith);
          in_range = record {
            p = (let a = is_found.rate.cycle.few in let b = is_found.rate.cycle.short in let n = small_piece.nodes in let e = lift.p_is in omega arith);
            q = (let a = is_found.rate.cycle.lowest.least_q in let b = is_found.rate.cycle.short in let n = small_piece.nodes in let e = lift.q_is in omega arith);
            lag = λ i d h. (let low = is_found.rate.are_lags.small i in let is : get_or part.lag i d ≡ get_or lags i 0 = get_or_default part.lag i d 0 h ∙ ap (λ (l : List ℕ). get_or l i 0) lift.lag_is in omega arith);
            lead = λ i d h. (let low = is_found.tree.small i in let is : get_or part.lead i d ≡ get_or lead i 0 = get_or_default part.lead i d 0 h ∙ ap (λ (l : List ℕ). get_or l i 0) lift.lead_is in omega arith);
          };
          lags = lag_of_node;
        }
