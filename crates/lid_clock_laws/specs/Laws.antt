-- The laws of ratios, lags and bounds.
use Rattle.std.specs.Prelude.{ℕ, ◌<◌, ◌≤◌}
use Rattle.lid_graph_ratio_laws.specs.Laws.{HasRatioAndLags}
use Rattle.lid_system.specs.declared.System.{System}
use Rattle.lid_system.specs.Systems.{IsWellFormed}
use Rattle.lid_stations.specs.declared.placement.Placement.{Placement}
use Rattle.lid_stations.specs.Placements.{links_of, Fits}
use Rattle.lid_stations.specs.Stations.{actor_count}
use Rattle.lid_stations.specs.Markings.{marking}
use Rattle.lid_shell_laws.specs.Runs.{IsWithinLag}
use Rattle.lid_clock_laws.specs.Bounds.{HasBound}

-- the component of an actor has a ratio above 0, and each of its actors a lag
pub record HasRatioAboveZero (s : System) (placement : Placement) (v : ℕ) : Type 0 where
  pub has : HasRatioAndLags (marking (links_of s) placement) v
  pub moves : 1 ≤ has.p

abbrev pub MarkingsHaveRatiosAndLags : Type 0
MarkingsHaveRatiosAndLags =
    (s : System) (p : Placement) (v : ℕ)
    → IsWellFormed s → Fits s p → v < actor_count (links_of s) p → HasRatioAboveZero s p v

-- what is within every bound is within one that there is
abbrev pub RunsHaveBounds : Type 0
RunsHaveBounds =
    (s : System) (p : Placement) (rows cycles : ℕ)
    → IsWellFormed s → Fits s p → IsWithinLag (links_of s) p rows cycles → HasBound (links_of s) p rows cycles
