-- The ratio that the edges forth of a marked graph have by themselves. Of n stations, station s has edge 2s
-- forth and edge 2s + 1 back; other edges come after these.
use Rattle.std.specs.Prelude.{◌≡◌, ℕ, ◌*◌, ◌<◌, ◌≤◌, ◌⊎◌, List, length}
use Rattle.std.specs.Int.{IsGcd}
use Rattle.std.specs.List.{All}
use Rattle.lid_graph.specs.declared.graph.Graph.{Graph}
use Rattle.lid_graph.specs.Walks.{walk_tokens}
use Rattle.lid_graph.specs.Ratios.{IsClosedWalkNear, IsRatio}

-- the edge leads forth along one of n stations, or comes after those of the stations
abbrev pub IsForward : ℕ → ℕ → Type 0
IsForward n k = ((s : ℕ) × (s < n) × (k ≡ 2 * s)) ⊎ (2 * n ≤ k)

-- a closed walk of the component of v on forward edges alone
abbrev pub IsForwardWalkNear : Graph → ℕ → ℕ → List ℕ → Type 0
IsForwardWalkNear g n v ks = IsClosedWalkNear g v ks × All (IsForward n) ks

-- p/q in lowest terms is the least of tokens/edges over the closed walks of the component of v on forward
-- edges alone
pub record IsForwardRatio (g : Graph) (n v p q : ℕ) : Type 0 where
  pub positive : 1 ≤ q
  pub lowest : IsGcd p q 1
  pub all : (ks : List ℕ) → IsForwardWalkNear g n v ks → p * length ks ≤ q * walk_tokens g ks
  pub some : (ks : List ℕ) × IsForwardWalkNear g n v ks × (q * walk_tokens g ks ≡ p * length ks)

-- the ratio of the component of v is its forward ratio
abbrev pub HasForwardRatio : Graph → ℕ → ℕ → Type 0
HasForwardRatio g n v = (p : ℕ) × (q : ℕ) × IsForwardRatio g n v p q × IsRatio g v p q
