-- That components have ratios, and their transitions lags.
use Rattle.std.specs.Prelude.{◌≡◌, ℕ, ◌*◌, ◌-◌, ◌<◌, ◌≤◌}
use Rattle.lid_graph.specs.declared.graph.Graph.{Graph}
use Rattle.lid_graph.specs.Walks.{IsPaired, IsJoined}
use Rattle.lid_graph.specs.Ratios.{IsRatio, IsLag}

-- p/q is the ratio of the component of v, and this the lag of v
pub record AreRatioAndLag (g : Graph) (p q v most : ℕ) : Type 0 where
  pub ratio : IsRatio g v p q
  pub lagging : IsLag g p q v most
  pub few : most ≤ p * (g.nodes - 1)

-- the component of v has a ratio, of at most 1, and each transition of it a lag
pub record HasRatioAndLags (g : Graph) (v : ℕ) : Type 0 where
  pub p : ℕ
  pub q : ℕ
  pub lag : ℕ → ℕ
  pub slow : p ≤ q
  pub short : q ≤ g.nodes
  pub each : (w : ℕ) → IsJoined g v w → AreRatioAndLag g p q w (lag w)

abbrev pub ComponentsHaveRatios : Type 0
ComponentsHaveRatios = (g : Graph) (v : ℕ) → IsPaired g → v < g.nodes → HasRatioAndLags g v

-- one ratio
abbrev pub RatiosAreUnique : Type 0
RatiosAreUnique = (g : Graph) (v p q a b : ℕ) → IsRatio g v p q → IsRatio g v a b → (p ≡ a) × (q ≡ b)

-- and with it one lag
abbrev pub LagsAreUnique : Type 0
LagsAreUnique = (g : Graph) (p q v x y : ℕ) → IsLag g p q v x → IsLag g p q v y → x ≡ y
