-- For the tests of a guess: what is looked at, edge by edge and transition by transition.
use Rattle.std.specs.Prelude.{◌≡◌, ℕ, ◌+◌, ◌*◌, ◌^◌, ◌<◌, ◌≤◌, Bool, true, false, List, [], ◌∷◌, length, slice_index, slice_index_or, slice_set, replicate, Option}
use Rattle.std.specs.Option.{MatchOption}
use Rattle.std.specs.List.{All}
use Rattle.lid_graph.specs.declared.graph.Graph.{Graph}
use Rattle.lid_graph.specs.Walks.{edge_at, walk_start, walk_tokens}
use Rattle.lid_rate_guess.specs.declared.guess.Guess.{Guess}
use Rattle.lid_rate_ratio.specs.CycleRatios.{IsLowest}
use Rattle.lid_rate_ratio.specs.WalksBack.{predecessor_of}
use Rattle.lid_rate_ratio.specs.Relaxation.{IsMet}

-- the edges lead on from a transition to the end, each to a transition that was not seen before
abbrev pub LeadsOn : Graph → ℕ → List Bool → List ℕ → ℕ → Type 0
LeadsOn g at seen [] end = at ≡ end
LeadsOn g at seen (k ∷ ks) end =
    (k < length g.edges)
    × ((edge_at g k).from ≡ at)
    × (slice_index_or seen (edge_at g k).to false ≡ false)
    × LeadsOn g (edge_at g k).to (slice_set seen (edge_at g k).to true) ks end

-- the edges lead on from where the first begins back to there, each to a transition that none before led to
abbrev pub IsSeenRound : Graph → List ℕ → Type 0
IsSeenRound g walk = LeadsOn g (walk_start g walk) (replicate g.nodes false) walk (walk_start g walk)

-- an edge to v, from a transition of lesser rank, that asks for all of v's lag
pub record IsTight (g : Graph) (p q : ℕ) (lags ranks : List ℕ) (v k : ℕ) : Type 0 where
  pub within : k < length g.edges
  pub ends : (edge_at g k).to ≡ v
  pub lesser : slice_index ranks (edge_at g k).from < slice_index ranks v
  pub all : slice_index lags (edge_at g k).from + p ≡ slice_index lags v + q * (edge_at g k).tokens

-- a lag is 0, or a tight edge shows it
abbrev pub IsShown : Graph → ℕ → ℕ → List ℕ → List ℕ → List (Option ℕ) → ℕ → Type 0
IsShown g p q lags ranks tight v = MatchOption (predecessor_of tight v) (slice_index lags v ≡ 0) (IsTight g p q lags ranks v)

-- lags that edges and ranks show to be the least
pub record AreShown (g : Graph) (p q : ℕ) (lags ranks : List ℕ) (tight : List (Option ℕ)) : Type 0 where
  pub lag_count : length lags ≡ g.nodes
  pub rank_count : length ranks ≡ g.nodes
  pub tight_count : length tight ≡ g.nodes
  pub small : All (λ n. n ≤ 2 ^ 60) lags
  pub met : (k : ℕ) → k < length g.edges → IsMet g p q lags lags k
  pub shown : (v : ℕ) → v < g.nodes → IsShown g p q lags ranks tight v

-- a guess of a closed walk and of the least lags at its ratio, as its edges and ranks show
pub record IsRightGuess (g : Graph) (guess : Guess) : Type 0 where
  pub some : 0 < length guess.walk
  pub short : length guess.walk ≤ g.nodes
  pub round : IsSeenRound g guess.walk
  pub shown : (p q : ℕ) → IsLowest (walk_tokens g guess.walk) (length guess.walk) p q → AreShown g p q guess.lags guess.ranks guess.tight
