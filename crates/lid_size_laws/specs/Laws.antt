-- Laws of marked graphs and the capacities of their stations.
use Rattle.std.specs.Prelude.{ℕ, ◌*◌, ◌≤◌, ◌↔◌}
use Rattle.lid_graph.specs.declared.graph.Graph.{Graph}
use Rattle.lid_graph.specs.Walks.{IsPaired, IsJoined}
use Rattle.lid_graph.specs.Ratios.{IsRatio}
use Rattle.lid_size_laws.specs.Capacities.{IsForwardRatio, HasForwardRatio}
use Rattle.lid_size_laws.specs.Differing.{KeepsRatio, HasNoMore, DifferInCapacities}

-- more tokens never lower a ratio
abbrev pub TokensRaiseRatios : Type 0
TokensRaiseRatios = (g h : Graph) (v p q more_p more_q : ℕ) → HasNoMore g h → IsRatio g v p q → IsRatio h v more_p more_q → p * more_q ≤ more_p * q

-- no capacities take a ratio above the forward ratio
abbrev pub NoRatioIsAboveForward : Type 0
NoRatioIsAboveForward = (g : Graph) (n v p q most_p most_q : ℕ) → IsRatio g v p q → IsForwardRatio g n v most_p most_q → p * most_q ≤ most_p * q

-- the forward ratio is the same for all capacities
abbrev pub ForwardRatiosStay : Type 0
ForwardRatiosStay = (n : ℕ) (g h : Graph) (v p q : ℕ) → DifferInCapacities n g h → IsForwardRatio g n v p q → IsForwardRatio h n v p q

-- and the same for all transitions of a component
abbrev pub ForwardRatiosSpread : Type 0
ForwardRatiosSpread = (n : ℕ) (g : Graph) (u v p q : ℕ) → IsPaired g → IsJoined g u v → IsForwardRatio g n u p q → IsForwardRatio g n v p q

-- a component has its forward ratio exactly where none of its closed walks has a lower one
abbrev pub ForwardRatiosAreKept : Type 0
ForwardRatiosAreKept = (g : Graph) (n v p q : ℕ) → IsForwardRatio g n v p q → (HasForwardRatio g n v ↔ KeepsRatio g v p q)

-- which is where its ratio is not below the forward ratio
abbrev pub ForwardRatiosAreCompared : Type 0
ForwardRatiosAreCompared =
    (g : Graph) (n v p q most_p most_q : ℕ)
    → IsRatio g v p q
    → IsForwardRatio g n v most_p most_q
    → (HasForwardRatio g n v ↔ (most_p * q ≤ p * most_q))

-- a component that has its forward ratio has it with greater capacities too
abbrev pub GreaterCapacitiesKeep : Type 0
GreaterCapacitiesKeep = (n : ℕ) (g h : Graph) (v : ℕ) → DifferInCapacities n g h → HasNoMore g h → HasForwardRatio g n v → HasForwardRatio h n v
