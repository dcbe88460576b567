-- The bound on the cycles of a clocked run.
use Rattle.std.specs.Prelude.{ℕ, ◌+◌, ◌*◌, ◌≤◌}
use Rattle.std.specs.Int.{div_ceil}
use Rattle.lid_graph.specs.Ratios.{IsRatio, IsLag}
use Rattle.lid_stations.specs.declared.placement.Placement.{Placement}
use Rattle.lid_stations.specs.Placements.{Links}
use Rattle.lid_stations.specs.Markings.{marking}
use Rattle.lid_shell_laws.specs.Runs.{sink_of}

-- p/q is the ratio of the sink's component, lag is the sink's lag, and a run of so many rows ends within
-- (q*rows + lag)/p cycles, rounded up
pub record HasBound (l : Links) (placement : Placement) (rows cycles : ℕ) : Type 0 where
  pub p : ℕ
  pub q : ℕ
  pub lag : ℕ
  pub ratio : IsRatio (marking l placement) (sink_of l) p q
  pub lagging : IsLag (marking l placement) p q (sink_of l) lag
  pub moves : 1 ≤ p
  pub within : cycles ≤ div_ceil (q * rows + lag) p
