-- Whether no closed walk of a graph has a ratio below p/q.
use Rattle.std.specs.Prelude.{◌≡◌, ℕ, ◌*◌, ◌^◌, ◌<◌, ◌≤◌, List, length}
use Rattle.std.specs.List.{All}
use Rattle.lid_graph.specs.declared.graph.Graph.{Graph}
use Rattle.lid_graph.specs.Walks.{walk_tokens, IsClosedWalk}
use Rattle.lid_rate_ratio.specs.declared.holding.Bound.{Bound}
use Rattle.lid_rate_ratio.specs.declared.holding.Bound.TheVariants.{At, Lower}
use Rattle.lid_rate_ratio.specs.Once.{MeetsOnce}
use Rattle.lid_rate_ratio.specs.Relaxation.{IsMet}

-- labels that are as large as every edge asks at p/q
pub record MeetRule (g : Graph) (p q : ℕ) (labels : List ℕ) : Type 0 where
  pub count : length labels ≡ g.nodes
  pub small : All (λ n. n ≤ 2 ^ 60) labels
  pub met : (k : ℕ) → k < length g.edges → IsMet g p q labels labels k

-- no closed walk has a ratio below p/q, and labels show it
pub record ShowsBound (g : Graph) (p q : ℕ) (labels : List ℕ) : Type 0 where
  pub rule : MeetRule g p q labels
  pub walks : (ks : List ℕ) → IsClosedWalk g ks → p * length ks ≤ q * walk_tokens g ks

-- a closed walk with a ratio below p/q, which meets no transition twice
pub record IsLowerWalk (g : Graph) (p q : ℕ) (walk : List ℕ) : Type 0 where
  pub closed : IsClosedWalk g walk
  pub once : MeetsOnce g walk
  pub short : length walk ≤ g.nodes
  pub lower : q * walk_tokens g walk < p * length walk

abbrev pub Bounds : Graph → ℕ → ℕ → Bound → Type 0
Bounds g p q (At labels) = ShowsBound g p q labels
Bounds g p q (Lower walk) = IsLowerWalk g p q walk
