-- What it means to keep a ratio.
use Rattle.std.specs.Prelude.{ℕ, ◌*◌, ◌≤◌, ◌↔◌}
use Rattle.lid_graph.specs.Ratios.{IsRatio}
use Rattle.lid_stations.specs.declared.placement.Placement.{Placement}
use Rattle.lid_stations.specs.Placements.{Links}
use Rattle.lid_stations.specs.Markings.{marking}
use Rattle.lid_slack_longer.specs.Longer.{longer_marking, producer, KeepsRatio}

-- where a/b is the present ratio, and d/e the ratio with x further relay stations, the ratio is kept exactly
-- where d/e is not below a/b
abbrev pub KeepingIsNotLowering : Type 0
KeepingIsNotLowering =
    (l : Links) (p : Placement) (c x a b d e : ℕ)
    → IsRatio (marking l p) (producer l c) a b → IsRatio (longer_marking l p c x) (producer l c) d e
    → KeepsRatio l p c x ↔ (a * e ≤ d * b)
