-- How few edges lead from a start to each transition, and an edge back to one that fewer lead to.
use Rattle.std.proofs.Common.{◌≡◌, ℕ, suc, ◌+◌, ◌*◌, ◌<◌, ◌≤◌, ◌≢◌, ◌⊎◌, inl, inr, List, [], ◌∷◌, length, Option, Some, None, refl, sym, arith}
use Rattle.std.specs.Prelude.{⊤}
use Rattle.std.specs.Option.{MatchOption}
use Rattle.std.proofs.lemmas.Bool.{cases_eq}
use Rattle.lid_graph.specs.declared.graph.Graph.{Graph}
use Rattle.lid_graph.specs.Walks.{edge_at, IsPaired, IsWalk, IsJoined, walk_tokens}
use Rattle.lid_graph_ratio_laws.proofs.Deciding.{Exceeds, NoneExceeds, exceeds_or_none, short_joined, joined_or_not}
use Rattle.lid_rate_laws.proofs.Firsts.{IsFirst, first_of}

-- a walk by its last edge
record IsLast (g : Graph) (u v : ℕ) (ks : List ℕ) : Type 0 where
  edge : ℕ
  before : List ℕ
  within : edge < length g.edges
  leads : IsWalk g u before (edge_at g edge).from
  end : (edge_at g edge).to ≡ v
  long : length ks ≡ suc (length before)

last_of : (g : Graph) (u v k : ℕ) (ks : List ℕ) → IsWalk g u (k ∷ ks) v → IsLast g u v (k ∷ ks)
last_of g u v k [] walk = record { edge = k; before = []; within = walk.0; leads = sym walk.1; end = walk.2; long = refl }
last_of g u v k (l ∷ ls) walk = later (last_of g (edge_at g k).to v l ls walk.2)
  where
    later : IsLast g (edge_at g k).to v (l ∷ ls) → IsLast g u v (k ∷ l ∷ ls)
    later r = record { edge = r.edge; before = k ∷ r.before; within = r.within; leads = (walk.0, walk.1, r.leads); end = r.end; long = omega (arith, r.long) }

module _ (g : Graph) (paired : IsPaired g) (start : ℕ) (below : start < g.nodes) where
  -- a walk of at most so many edges leads from the start to a transition
  abbrev Reaches : ℕ → ℕ → Type 0
  Reaches w n = Exceeds g 0 0 n start w 0 1

  reaches : (w n : ℕ) (ks : List ℕ) → IsWalk g start ks w → length ks ≤ n → Reaches w n
  reaches w n ks walk few = record { edges = ks; leads = walk; short = few; more = omega arith }

  reaches_or_not : (w n : ℕ) → Reaches w n ⊎ (Reaches w n → ⊥)
  reaches_or_not w n = by_walk (exceeds_or_none g 0 0 n start w 0 1)
    where
      apart : NoneExceeds g 0 0 n start w 0 1 → Reaches w n → ⊥
      apart none x =
          let bound : 1 + 0 * length x.edges ≤ 0 + 0 * walk_tokens g x.edges = none x.edges x.leads x.short in
          omega arith

      by_walk : Exceeds g 0 0 n start w 0 1 ⊎ NoneExceeds g 0 0 n start w 0 1 → Reaches w n ⊎ (Reaches w n → ⊥)
      by_walk (inl x) = inl x
      by_walk (inr none) = inr (apart none)

  record HasDepth (w : ℕ) : Type 0 where
    few_edges : ℕ
    first : IsFirst (Reaches w) few_edges
    few : few_edges < g.nodes

  has_depth : (w : ℕ) → IsJoined g start w → HasDepth w
  has_depth w joined =
      let short = short_joined g paired (length joined.0) start w joined.0 joined.1 below (omega arith) in
      let there : Reaches w (length short.0) = reaches w (length short.0) short.0 short.1 (omega arith) in
      let found = first_of (Reaches w) (reaches_or_not w) (length short.0) there in
      let least : found.0 ≤ length short.0 = found.1.first (length short.0) there in
      record { few_edges = found.0; first = found.1; few = (let s = short.2 in omega arith) }

  abbrev depth_by : (w : ℕ) → IsJoined g start w ⊎ (IsJoined g start w → ⊥) → ℕ
  depth_by w (inl joined) = (has_depth w joined).few_edges
  depth_by w (inr apart) = 0

  pub depth : ℕ → ℕ
  depth w = depth_by w (joined_or_not g paired start w below)

  depth_first_by : (w : ℕ) (d : IsJoined g start w ⊎ (IsJoined g start w → ⊥)) → IsJoined g start w → IsFirst (Reaches w) (depth_by w d) × (depth_by w d < g.nodes)
  depth_first_by w (inl there) joined = let h = has_depth w there in (h.first, h.few)
  depth_first_by w (inr apart) joined = absurd (apart joined)

  depth_first : (w : ℕ) → IsJoined g start w → IsFirst (Reaches w) (depth w) × (depth w < g.nodes)
  unfolding depth
  depth_first w joined = depth_first_by w (joined_or_not g paired start w below) joined

  pub depth_few : (w : ℕ) → depth w ≤ g.nodes
  unfolding depth
  depth_few w = by_joined (joined_or_not g paired start w below)
    where
      by_joined : (d : IsJoined g start w ⊎ (IsJoined g start w → ⊥)) → depth_by w d ≤ g.nodes
      by_joined (inl there) = let few = (has_depth w there).few in omega arith
      by_joined (inr apart) = omega arith

  pub depth_start : depth start ≡ 0
  depth_start = let least = (depth_first start ([], refl)).0.first 0 (reaches start 0 [] refl (omega arith)) in omega arith

  -- an edge from a transition that fewer edges lead to
  pub record IsBack (w k : ℕ) : Type 0 where
    pub within : k < length g.edges
    pub ends : (edge_at g k).to ≡ w
    pub joined : IsJoined g start (edge_at g k).from
    pub less : depth (edge_at g k).from < depth w

  back : (w : ℕ) → IsJoined g start w → w ≢ start → (k : ℕ) × IsBack w k
  back w joined other = by_edges (depth_first w joined).0.here.edges (depth_first w joined).0.here.leads (depth_first w joined).0.here.short
    where
      by_last : (ks : List ℕ) → length ks ≤ depth w → IsLast g start w ks → (k : ℕ) × IsBack w k
      by_last ks few l =
          let from : IsJoined g start (edge_at g l.edge).from = (l.before, l.leads) in
          let least : depth (edge_at g l.edge).from ≤ length l.before = (depth_first (edge_at g l.edge).from from).0.first (length l.before) (reaches (edge_at g l.edge).from (length l.before) l.before l.leads (omega arith)) in
          (l.edge, record { within = l.within; ends = l.end; joined = from; less = omega (arith, l.long) })

      by_edges : (ks : List ℕ) → IsWalk g start ks w → length ks ≤ depth w → (k : ℕ) × IsBack w k
      by_edges [] walk few = absurd (other (sym walk))
      by_edges (k ∷ ks) walk few = by_last (k ∷ ks) few (last_of g start w k ks walk)

  abbrev via_by : (w : ℕ) → (w ≡ start) ⊎ (w ≢ start) → IsJoined g start w ⊎ (IsJoined g start w → ⊥) → Option ℕ
  via_by w (inl same) d = None
  via_by w (inr other) (inl joined) = Some (back w joined other).0
  via_by w (inr other) (inr apart) = None

  pub via : ℕ → Option ℕ
  via w = via_by w (cases_eq w start) (joined_or_not g paired start w below)

  pub via_start : via start ≡ None
  unfolding via
  via_start = by_start (cases_eq start start)
    where
      by_start : (e : (start ≡ start) ⊎ (start ≢ start)) → via_by start e (joined_or_not g paired start start below) ≡ None
      by_start (inl same) = refl
      by_start (inr other) = absurd (other refl)

  -- what a via edge is, where there is one
  pub via_is : (P : ℕ → Type 0) (w : ℕ) → ((k : ℕ) → IsBack w k → P k) → IsJoined g start w → w ≢ start → MatchOption (via w) ⊥ P
  unfolding via
  via_is P w each joined other = by (cases_eq w start) (joined_or_not g paired start w below)
    where
      by : (e : (w ≡ start) ⊎ (w ≢ start)) (d : IsJoined g start w ⊎ (IsJoined g start w → ⊥)) → MatchOption (via_by w e d) ⊥ P
      by (inl same) d = absurd (other same)
      by (inr differ) (inl there) = each _ (back w there differ).1
      by (inr differ) (inr apart) = absurd (apart joined)

  pub via_some : (P : ℕ → Type 0) (w : ℕ) → ((k : ℕ) → IsBack w k → P k) → MatchOption (via w) ⊤ P
  unfolding via
  via_some P w each = by (cases_eq w start) (joined_or_not g paired start w below)
    where
      by : (e : (w ≡ start) ⊎ (w ≢ start)) (d : IsJoined g start w ⊎ (IsJoined g start w → ⊥)) → MatchOption (via_by w e d) ⊤ P
      by (inl same) d = tt
      by (inr differ) (inl there) = each _ (back w there differ).1
      by (inr differ) (inr apart) = tt
