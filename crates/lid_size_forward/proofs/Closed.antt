-- Closed walks, and edges forth by their numbers.
use Rattle.std.proofs.Common.{◌≡◌, ℕ, ◌/◌, ◌%◌, ◌<◌, ◌≤◌, ◌⊎◌, inl, inr, List, [], ◌∷◌, length, arith}
use Rattle.std.specs.List.{All}
use Rattle.std.proofs.lemmas.Bool.{cases_lt}
use Rattle.std.proofs.lemmas.List.Elements.{All-nil, All-cons}
use Rattle.lid_graph.specs.declared.graph.Graph.{Graph}
use Rattle.lid_graph.specs.Walks.{edge_at, walk_start, IsPaired, IsWalk, IsClosedWalk}
use Rattle.lid_size_laws.specs.Capacities.{IsForward}

-- an even number is that of an edge forth, or stands after those of the stations
pub even_forward : (n k : ℕ) → k % 2 ≡ 0 → IsForward n k
even_forward n k even = by_order (cases_lt (k / 2) n)
  where
    by_order : (k / 2 < n) ⊎ (n ≤ k / 2) → IsForward n k
    by_order (inl h) = inl (k / 2, h, omega arith)
    by_order (inr h) = inr (omega arith)

pub late_forward : (n k : ℕ) → n ≤ k / 2 → IsForward n k
late_forward n k late = inr (omega arith)

pub walk_within : (g : Graph) (ks : List ℕ) (u v : ℕ) → IsWalk g u ks v → All (λ k. k < length g.edges) ks
walk_within g [] u v walk = All-nil (λ k. k < length g.edges)
walk_within g (k ∷ ks) u v walk = All-cons (λ k. k < length g.edges) k ks walk.0 (walk_within g ks (edge_at g k).to v walk.2)

pub closed_start : (g : Graph) (ks : List ℕ) → IsPaired g → IsClosedWalk g ks → walk_start g ks < g.nodes
closed_start g [] paired closed = absurd (let s = closed.some in omega arith)
closed_start g (k ∷ ks) paired closed = (paired.ends k (closed.closed).0).from
