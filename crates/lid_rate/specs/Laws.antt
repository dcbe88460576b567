-- What follows from the rule for lags alone, for the firing counts of a graph.
use Rattle.std.specs.Prelude.{ℕ, ◌+◌, ◌*◌, ◌<◌, ◌≤◌, length}
use Rattle.lid_graph.specs.declared.graph.Graph.{Graph}
use Rattle.lid_graph.specs.Walks.{edge_at, IsPaired, IsJoined}
use Rattle.lid_graph.specs.Firings.{Counts, no_hold, firings, AreFitCaps}
use Rattle.lid_graph.specs.Ratios.{IsLag}

-- along each edge of the component of v the lag at the end is as large as the edge asks
abbrev pub MeetLagRule : Graph → ℕ → ℕ → ℕ → (ℕ → ℕ) → Type 0
MeetLagRule g v p q lag =
    (k : ℕ)
    → k < length g.edges
    → IsJoined g v (edge_at g k).from
    → lag (edge_at g k).from + p ≤ lag (edge_at g k).to + q * (edge_at g k).tokens

-- the lags of a component, at p and q
abbrev pub AreLagsNear : Graph → ℕ → ℕ → ℕ → (ℕ → ℕ) → Type 0
AreLagsNear g v p q lag = (w : ℕ) → IsJoined g v w → IsLag g p q w (lag w)

-- lags meet the rule
abbrev pub LagsMeetRule : Type 0
LagsMeetRule = (g : Graph) (v p q : ℕ) (lag : ℕ → ℕ) → AreLagsNear g v p q lag → MeetLagRule g v p q lag

-- where numbers meet the rule, no transition below its cap is behind p/q firings a cycle by more than
-- its number
abbrev pub RuleBoundsFirings : Type 0
RuleBoundsFirings =
    (g : Graph) (v p q : ℕ) (lag : ℕ → ℕ) (cap : Counts) (k : ℕ)
    → IsPaired g
    → MeetLagRule g v p q lag
    → AreFitCaps g cap
    → firings g cap no_hold k v < cap v
    → p * k ≤ q * firings g cap no_hold k v + lag v
