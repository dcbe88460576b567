-- An edge more keeps what holds of a tree.
use Rattle.std.proofs.Common.{◌≡◌, ℕ, ◌+◌, ◌*◌, ◌<◌, ◌≤◌, ◌≢◌, ◌==◌, ◌⊎◌, inl, inr, Bool, true, false, cond, ◌||◌, List, length, get_or, set, Option, Some, None, is_some, refl, sym, ◌∙◌, ap, subst, arith}
use Rattle.std.specs.List.{Contains}
use Rattle.std.specs.Bool.{MatchBool}
use Rattle.std.proofs.lemmas.Bool.{cases_eq, eq-eqb}
use Rattle.std.proofs.lemmas.List.Sums.{sum_by-set}
use Rattle.std.proofs.lemmas.List.{get_or_default}
use Rattle.std.proofs.Math.Nat.{mul-le-mul_left}
use Rattle.lid_graph.specs.declared.graph.Edge.{Edge}
use Rattle.lid_graph.specs.declared.graph.Graph.{Graph}
use Rattle.lid_graph.specs.Walks.{edge_at}
use Rattle.lid_rate_ratio.specs.Relaxation.{AreEdges}
use Rattle.lid_rate_ratio.specs.SpanningTrees.{is_reached, without_edge, unreached, AddsEdge, AddsNone, IsTree, IsSpanning, IsGrown}
use Rattle.lid_rate_ratio.proofs.Written.{IsWritten, is_written, IsStanding, standing}

or_none : (a : Bool) (o : Option ℕ) → a || is_some o ≡ false → (a ≡ false) × (o ≡ None)
or_none true o e = cc
or_none false None e = (refl, refl)
or_none false (Some x) e = cc

different : (start : ℕ) (via : List (Option ℕ)) (u t : ℕ) → is_reached start via u ≡ true → is_reached start via t ≡ false → u ≢ t
different start via u t inside outside same = let e : is_reached start via u ≡ is_reached start via t = ap (is_reached start via) same in cc

module _ (g : Graph) (es : List ℕ) (start q first k : ℕ) (via : List (Option ℕ)) (lead depth : List ℕ) (tree : IsTree g es start q first via lead depth) (listed : Contains es k) (to : (edge_at g k).to < g.nodes) (tokens : (edge_at g k).tokens ≤ 16) (new_via : List (Option ℕ)) (new_lead new_depth : List ℕ) (ext : AddsEdge (edge_at g k) k start q via lead depth new_via new_lead new_depth) where
  via_is : IsWritten via new_via (edge_at g k).to (Some k) None
  via_is = is_written via new_via (edge_at g k).to (Some k) None ext.via_is (omega (arith, tree.lists.via_count))

  lead_is : IsWritten lead new_lead (edge_at g k).to (get_or lead (edge_at g k).from 0 + q * (edge_at g k).tokens) 0
  lead_is = is_written lead new_lead (edge_at g k).to (get_or lead (edge_at g k).from 0 + q * (edge_at g k).tokens) 0 ext.lead_is (omega (arith, tree.lists.lead_count))

  depth_is : IsWritten depth new_depth (edge_at g k).to (get_or depth (edge_at g k).from 0 + 1) 0
  depth_is = is_written depth new_depth (edge_at g k).to (get_or depth (edge_at g k).from 0 + 1) 0 ext.depth_is (omega (arith, tree.lists.depth_count))

  inside_other : (v : ℕ) → is_reached start via v ≡ true → v ≢ (edge_at g k).to
  inside_other v inside = different start via v (edge_at g k).to inside ext.outside

  start_other : start ≢ (edge_at g k).to
  start_other = inside_other start (let e : start == start ≡ true = eq-eqb start start refl in rw e refl)

  was_none : get_or via (edge_at g k).to None ≡ None
  was_none = (or_none ((edge_at g k).to == start) (get_or via (edge_at g k).to None) ext.outside).1

  still : (v : ℕ) → is_reached start via v ≡ true → is_reached start new_via v ≡ true
  still v inside = ap (λ (o : Option ℕ). (v == start) || is_some o) (via_is.there v (inside_other v inside)) ∙ inside

  pub fewer : unreached new_via + 1 ≡ unreached via
  fewer =
      let within : (edge_at g k).to < length via = omega (arith, tree.lists.via_count) in
      let sums : unreached (set via (edge_at g k).to (Some k)) + without_edge (get_or via (edge_at g k).to None) ≡ unreached via + without_edge (Some k) = sum_by-set without_edge via (edge_at g k).to (Some k) None within in
      let one : without_edge (get_or via (edge_at g k).to None) ≡ 1 = ap without_edge was_none in
      let now : unreached new_via ≡ unreached (set via (edge_at g k).to (Some k)) = ap unreached ext.via_is in
      omega arith

  abbrev Case : ℕ → ℕ → Type 0
  Case v l = IsStanding via (edge_at g k).to k v l

  new_listed : (v l : ℕ) → Case v l → Contains es l
  new_listed v l (inl is) = subst (Contains es) is.1 listed
  new_listed v l (inr old) = (tree.edges v l old.1).listed

  new_ends : (v l : ℕ) → Case v l → (edge_at g l).to ≡ v
  new_ends v l (inl is) = subst (λ (n : ℕ). (edge_at g n).to ≡ v) is.1 (sym is.0)
  new_ends v l (inr old) = (tree.edges v l old.1).ends

  new_begins : (v l : ℕ) → Case v l → is_reached start new_via (edge_at g l).from ≡ true
  new_begins v l (inl is) = subst (λ (n : ℕ). is_reached start new_via (edge_at g n).from ≡ true) is.1 (still (edge_at g k).from ext.inside)
  new_begins v l (inr old) = still (edge_at g l).from ((tree.edges v l old.1).begins)

  new_deeper : (v l : ℕ) → Case v l → get_or new_depth (edge_at g l).from 0 < get_or new_depth v 0
  new_deeper v l (inl is) =
      let here = depth_is.here in
      let there = depth_is.there (edge_at g k).from (inside_other (edge_at g k).from ext.inside) in
      let low : get_or new_depth (edge_at g k).from 0 < get_or new_depth (edge_at g k).to 0 = omega arith in
      subst (λ (n : ℕ). get_or new_depth (edge_at g n).from 0 < get_or new_depth v 0) is.1 (subst (λ (n : ℕ). get_or new_depth (edge_at g k).from 0 < get_or new_depth n 0) (sym is.0) low)
  new_deeper v l (inr old) =
      let there = depth_is.there v old.0 in
      let from = depth_is.there (edge_at g l).from (inside_other (edge_at g l).from ((tree.edges v l old.1).begins)) in
      let was = (tree.edges v l old.1).deeper in
      omega arith

  new_leads : (v l : ℕ) → Case v l → get_or new_lead (edge_at g l).from 0 + q * (edge_at g l).tokens ≤ get_or new_lead v 0
  new_leads v l (inl is) =
      let here = lead_is.here in
      let there = lead_is.there (edge_at g k).from (inside_other (edge_at g k).from ext.inside) in
      let low : get_or new_lead (edge_at g k).from 0 + q * (edge_at g k).tokens ≤ get_or new_lead (edge_at g k).to 0 = omega arith in
      subst (λ (n : ℕ). get_or new_lead (edge_at g n).from 0 + q * (edge_at g n).tokens ≤ get_or new_lead v 0) is.1 (subst (λ (n : ℕ). get_or new_lead (edge_at g k).from 0 + q * (edge_at g k).tokens ≤ get_or new_lead n 0) (sym is.0) low)
  new_leads v l (inr old) =
      let there = lead_is.there v old.0 in
      let from = lead_is.there (edge_at g l).from (inside_other (edge_at g l).from ((tree.edges v l old.1).begins)) in
      let was = (tree.edges v l old.1).leads in
      omega arith

  new_shallow : (v : ℕ) → (v ≡ (edge_at g k).to) ⊎ (v ≢ (edge_at g k).to) → get_or new_depth v 0 + unreached new_via ≤ g.nodes
  new_shallow v (inl is) =
      let here = depth_is.here in
      let less = fewer in
      let was = tree.shallow (edge_at g k).from in
      subst (λ (n : ℕ). get_or new_depth n 0 + unreached new_via ≤ g.nodes) (sym is) (omega arith)
  new_shallow v (inr other) =
      let there = depth_is.there v other in
      let less = fewer in
      let was = tree.shallow v in
      omega arith

  new_small : (v : ℕ) → (v ≡ (edge_at g k).to) ⊎ (v ≢ (edge_at g k).to) → get_or new_lead v 0 ≤ first + 16 * q * get_or new_depth v 0
  new_small v (inl is) =
      let here = lead_is.here in
      let deep = depth_is.here in
      let was = tree.small (edge_at g k).from in
      let few : q * (edge_at g k).tokens ≤ q * 16 = mul-le-mul_left q tokens in
      let scaled : 16 * q * get_or new_depth (edge_at g k).to 0 ≡ 16 * q * (get_or depth (edge_at g k).from 0 + 1) = ap (λ (n : ℕ). 16 * q * n) deep in
      subst (λ (n : ℕ). get_or new_lead n 0 ≤ first + 16 * q * get_or new_depth n 0) (sym is) (omega arith)
  new_small v (inr other) =
      let there = lead_is.there v other in
      let same = depth_is.there v other in
      let scaled : 16 * q * get_or new_depth v 0 ≡ 16 * q * get_or depth v 0 = ap (λ (n : ℕ). 16 * q * n) same in
      let was = tree.small v in
      omega arith

  pub tree_on : IsTree g es start q first new_via new_lead new_depth
  tree_on = record {
    lists = record { via_count = via_is.long ∙ tree.lists.via_count; lead_count = lead_is.long ∙ tree.lists.lead_count; depth_count = depth_is.long ∙ tree.lists.depth_count };
    root =
        record {
          no_edge = via_is.there start start_other ∙ tree.root.no_edge;
          first_lead = lead_is.there start start_other ∙ tree.root.first_lead;
          no_depth = depth_is.there start start_other ∙ tree.root.no_depth;
        };
    edges = λ v l e.
        let case = standing via new_via (edge_at g k).to k via_is v l e in
        record {
          listed = new_listed v l case;
          ends = new_ends v l case;
          begins = new_begins v l case;
          deeper = new_deeper v l case;
          leads = new_leads v l case;
        };
    shallow = λ v. new_shallow v (cases_eq v (edge_at g k).to);
    small = λ v. new_small v (cases_eq v (edge_at g k).to);
  }

module _ (g : Graph) (es : List ℕ) (start q first : ℕ) where
  module _ (edges : AreEdges g es) (n : ℕ) (h : n < length es) (old_via via : List (Option ℕ)) (lead depth : List ℕ) (grown : Bool) (so : IsGrown g es start q first n old_via via lead depth grown) (new_via : List (Option ℕ)) (new_lead new_depth : List ℕ) where
    key_within : get_or es n 0 < length g.edges
    key_within = edges.within n h

    spread_more : AddsEdge (edge_at g (get_or es n 0)) (get_or es n 0) start q via lead depth new_via new_lead new_depth → IsGrown g es start q first (n + 1) old_via new_via new_lead new_depth true
    spread_more ext =
        let to = edges.to (get_or es n 0) key_within in
        let tokens = edges.tokens (get_or es n 0) key_within in
        let listed : Contains es (get_or es n 0) = (n, h, get_or_default es n (get_or es n 0) 0 h) in
        let less = fewer g es start q first (get_or es n 0) via lead depth so.tree listed to tokens new_via new_lead new_depth ext in
        let was = so.no_more in
        record {
          tree = tree_on g es start q first (get_or es n 0) via lead depth so.tree listed to tokens new_via new_lead new_depth ext;
          fewer = λ e. omega arith;
          no_more = omega arith;
          closed = λ e. absurd (cc);
        }

    closed_more : grown ≡ false → (is_reached start via (edge_at g (get_or es n 0)).from ≡ true → is_reached start via (edge_at g (get_or es n 0)).to ≡ true) → IsSpanning g es start (n + 1) via
    closed_more e here i below = by_index (cases_eq i n)
      where
        by_index : (i ≡ n) ⊎ (i ≢ n) → is_reached start via (edge_at g (get_or es i 0)).from ≡ true → is_reached start via (edge_at g (get_or es i 0)).to ≡ true
        by_index (inl is) = subst (λ (j : ℕ). is_reached start via (edge_at g (get_or es j 0)).from ≡ true → is_reached start via (edge_at g (get_or es j 0)).to ≡ true) (sym is) here
        by_index (inr other) = so.closed e i (omega arith)

    spread_same : AddsNone (edge_at g (get_or es n 0)) start via lead depth new_via new_lead new_depth → IsGrown g es start q first (n + 1) old_via new_via new_lead new_depth grown
    spread_same leaves =
        subst (λ (l : List (Option ℕ)). IsGrown g es start q first (n + 1) old_via l new_lead new_depth grown) (sym leaves.via_same)
        (subst (λ (l : List ℕ). IsGrown g es start q first (n + 1) old_via via l new_depth grown) (sym leaves.lead_same)
        (subst (λ (l : List ℕ). IsGrown g es start q first (n + 1) old_via via lead l grown) (sym leaves.depth_same)
        record {
          tree = so.tree;
          fewer = so.fewer;
          no_more = so.no_more;
          closed = λ e. closed_more e leaves.closed;
        }))

    pub spread_then : (e : Edge) → e ≡ edge_at g (get_or es n 0) → (b : Bool) → MatchBool b (AddsEdge e (get_or es n 0) start q via lead depth new_via new_lead new_depth) (AddsNone e start via lead depth new_via new_lead new_depth) → b ≡ true → (now : Bool) → now ≡ true → IsGrown g es start q first (n + 1) old_via new_via new_lead new_depth now
    spread_then e is true step holds now now_is = subst (IsGrown g es start q first (n + 1) old_via new_via new_lead new_depth) (sym now_is) (spread_more (subst (λ (f : Edge). AddsEdge f (get_or es n 0) start q via lead depth new_via new_lead new_depth) is step))
    spread_then e is false step holds now now_is = cc

    pub spread_else : (e : Edge) → e ≡ edge_at g (get_or es n 0) → (b : Bool) → MatchBool b (AddsEdge e (get_or es n 0) start q via lead depth new_via new_lead new_depth) (AddsNone e start via lead depth new_via new_lead new_depth) → b ≡ false → (now : Bool) → now ≡ grown → IsGrown g es start q first (n + 1) old_via new_via new_lead new_depth now
    spread_else e is false step fails now now_is = subst (IsGrown g es start q first (n + 1) old_via new_via new_lead new_depth) (sym now_is) (spread_same (subst (λ (f : Edge). AddsNone f start via lead depth new_via new_lead new_depth) is step))
    spread_else e is true step fails now now_is = cc

-- a round that has grown leaves fewer, and one that has not is the last
pub round_smaller : (old new : ℕ) (grown now : Bool) (P : Type 0) → grown ≡ true → new ≤ old → MatchBool now (new < old) P → new + cond now 1 0 < old + cond grown 1 0
round_smaller old new false now P was most less = cc
round_smaller old new true true P was most less = omega arith
round_smaller old new true false P was most less = omega arith
