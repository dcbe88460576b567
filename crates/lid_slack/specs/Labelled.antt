-- For the test of what is proposed: ways, and the ratio of the closed walk that one makes.
use Rattle.std.specs.Prelude.{ℕ, ◌+◌, ◌<◌, ◌^◌, List, length}
use Rattle.lid_graph.specs.declared.graph.Graph.{Graph}
use Rattle.lid_graph.specs.Walks.{walk_tokens}
use Rattle.lid_rate_ratio.specs.CycleRatios.{IsLowest}
use Rattle.lid_stations.specs.Placements.{links_of}
use Rattle.lid_stations.specs.Markings.{marking}
use Rattle.lid_slack_longer.specs.Labels.{edge_along, IsWay}
use Rattle.lid_slack.specs.declared.trial.Probe.{Probe}

-- the present marked graph of a probe
abbrev pub present_marking : Probe → Graph
present_marking t = marking (links_of t.system.now) t.placement.now

-- a way is closed by a station and x further ones to a walk of the ratio a/b
pub record IsWayRatio (g : Graph) (station x : ℕ) (way : List ℕ) (a b : ℕ) : Type 0 where
  pub is_way : IsWay g station way
  pub lowest : IsLowest ((edge_along g station).tokens + walk_tokens g way) (x + 1 + length way) a b
  pub small_a : a < 2 ^ 31
  pub small_b : b < 2 ^ 31
