-- The ratio of a component, and the lags of its transitions.
use Rattle.std.specs.Prelude.{◌≡◌, ℕ, ◌+◌, ◌*◌, ◌≤◌, List, length}
use Rattle.std.specs.Int.{IsGcd}
use Rattle.lid_graph.specs.declared.graph.Graph.{Graph}
use Rattle.lid_graph.specs.Walks.{IsWalk, IsClosedWalk, IsJoined, walk_start, walk_tokens}

-- a closed walk of the component of v
abbrev pub IsClosedWalkNear : Graph → ℕ → List ℕ → Type 0
IsClosedWalkNear g v ks = IsClosedWalk g ks × IsJoined g v (walk_start g ks)

-- p/q in lowest terms is the least of tokens/edges over the closed walks of the component of v
pub record IsRatio (g : Graph) (v p q : ℕ) : Type 0 where
  pub positive : 1 ≤ q
  pub lowest : IsGcd p q 1
  pub all : (ks : List ℕ) → IsClosedWalkNear g v ks → p * length ks ≤ q * walk_tokens g ks
  pub some : (ks : List ℕ) × IsClosedWalkNear g v ks × (q * walk_tokens g ks ≡ p * length ks)

-- lag is the greatest p*edges - q*tokens over the walks that end at v, the empty one included
pub record IsLag (g : Graph) (p q v lag : ℕ) : Type 0 where
  pub all : (u : ℕ) (ks : List ℕ) → IsWalk g u ks v → p * length ks ≤ lag + q * walk_tokens g ks
  pub some : (u : ℕ) × (ks : List ℕ) × IsWalk g u ks v × (p * length ks ≡ lag + q * walk_tokens g ks)
