-- The slack of a channel: how many further relay stations it takes before the ratio of its component falls.
use Rattle.std.specs.Prelude.{ℕ, ◌≤◌}
use Rattle.lid_graph.specs.Ratios.{IsRatio}
use Rattle.lid_stations.specs.declared.placement.Placement.{Placement}
use Rattle.lid_stations.specs.Placements.{Links}
use Rattle.lid_stations.specs.Markings.{marking}
use Rattle.lid_slack_longer.specs.Longer.{producer, room, KeepsRatio}

-- the component of channel c has a ratio
abbrev pub HasRatio : Links → Placement → ℕ → Type 0
HasRatio l p c = (a : ℕ) × (b : ℕ) × IsRatio (marking l p) (producer l c) a b

-- x is the greatest number of further relay stations on channel c, as far as there is room, with which the
-- ratio of its component is not below the present one
pub record IsSlack (l : Links) (p : Placement) (c x : ℕ) : Type 0 where
  pub rated : HasRatio l p c
  pub within : x ≤ room p c
  pub keeps : KeepsRatio l p c x
  pub greatest : (y : ℕ) → y ≤ room p c → KeepsRatio l p c y → y ≤ x
