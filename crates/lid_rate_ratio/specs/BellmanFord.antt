-- For the loops: potentials at a ratio, which are the lags of the transitions, or a closed walk of lower
-- ratio.
use Rattle.std.specs.Prelude.{◌≡◌, ℕ, ◌*◌, ◌^◌, ◌<◌, ◌≤◌, List, length, slice_index, Option}
use Rattle.lid_graph.specs.declared.graph.Graph.{Graph}
use Rattle.lid_graph.specs.Walks.{walk_tokens}
use Rattle.lid_rate_ratio.specs.declared.bellman_ford.Settled.{Settled}
use Rattle.lid_rate_ratio.specs.declared.bellman_ford.Settled.TheVariants.{Lags, Lower}
use Rattle.lid_rate_ratio.specs.WalksBack.{IsCycleOn}
use Rattle.lid_rate_ratio.specs.Relaxation.{ArePotentials, IsAttained, IsMet, AreAtMost, ReachesWalks}

-- potentials that are as large as each edge of the list asks, each asked for by a walk
pub record AreLags (g : Graph) (es : List ℕ) (p q : ℕ) (values : List ℕ) : Type 0 where
  pub count : length values ≡ g.nodes
  pub met : (i : ℕ) → i < length es → IsMet g p q values values (slice_index es i)
  pub attained : (v : ℕ) → v < g.nodes → IsAttained g es p q values v
  pub small : AreAtMost values (2 ^ 60)

-- a closed walk on the edges, of lower ratio
pub record IsLower (g : Graph) (es : List ℕ) (p q : ℕ) (walk : List ℕ) : Type 0 where
  pub cycle : IsCycleOn g es walk
  pub lower : q * walk_tokens g cycle.chain < p * length cycle.chain

abbrev pub SettlesLags : Graph → List ℕ → ℕ → ℕ → Settled → Type 0
SettlesLags g es p q (Lags values) = AreLags g es p q values
SettlesLags g es p q (Lower walk) = IsLower g es p q walk

-- after so many rounds of relaxations
pub record IsSettling (g : Graph) (es : List ℕ) (p q rounds : ℕ) (values : List ℕ) (last : List (Option ℕ)) : Type 0 where
  pub raised : ArePotentials g es p q values last
  pub reaches : ReachesWalks g es p q rounds values
  pub small : AreAtMost values (p * length es * rounds)
  pub early : rounds ≤ g.nodes
