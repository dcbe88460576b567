-- What further relay stations on a channel do.
use Rattle.std.specs.Prelude.{◌≡◌, ℕ, ◌+◌, ◌<◌, ◌≤◌, List, length, Option}
use Rattle.lid_graph.specs.Walks.{walk_tokens}
use Rattle.lid_graph.specs.Ratios.{IsClosedWalkNear, IsRatio}
use Rattle.lid_system.specs.declared.System.{System}
use Rattle.lid_system.specs.Systems.{IsWellFormed}
use Rattle.lid_stations.specs.declared.placement.Placement.{Placement}
use Rattle.lid_stations.specs.Placements.{links_of, Fits}
use Rattle.lid_stations.specs.Markings.{marking}
use Rattle.lid_slack_longer.specs.Longer.{last_station, longer, longer_marking, room, producer, KeepsAt}
use Rattle.lid_slack_longer.specs.Labels.{edge_along, AreKeepingLabels, IsWay}

-- as many further relay stations as there is room for fit
abbrev pub LongerFits : Type 0
LongerFits =
    (s : System) (p : Placement) (c x : ℕ)
    → Fits s p → c < length s.channels → x ≤ room p c → Fits s (longer p c x)

-- no further relay stations change nothing
abbrev pub NoneAreNone : Type 0
NoneAreNone = (p : Placement) (c : ℕ) → longer p c 0 ≡ p

-- a ratio that is kept with some further relay stations, and present, is kept with fewer
abbrev pub FewerKeep : Type 0
FewerKeep =
    (s : System) (p : Placement) (c x y a b : ℕ)
    → IsWellFormed s → Fits s p → c < length s.channels → y ≤ room p c → x ≤ y
    → IsRatio (marking (links_of s) p) (producer (links_of s) c) a b
    → KeepsAt (links_of s) p c y a b → KeepsAt (links_of s) p c x a b

-- labels of the present marked graph show that a ratio is kept with some further relay stations
abbrev pub LabelsKeep : Type 0
LabelsKeep =
    (s : System) (p : Placement) (c x a b : ℕ) (labels : List (Option ℕ))
    → IsWellFormed s → Fits s p → c < length s.channels → 1 ≤ x
    → AreKeepingLabels (marking (links_of s) p) (last_station p c) (producer (links_of s) c) x a b labels
    → KeepsAt (links_of s) p c x a b

-- a closed walk of the channel's component with x further relay stations, of so many edges and tokens
pub record HasWalk (s : System) (p : Placement) (c x edges tokens : ℕ) : Type 0 where
  pub walk : List ℕ
  pub near : IsClosedWalkNear (longer_marking (links_of s) p c x) (producer (links_of s) c) walk
  pub long : length walk ≡ edges
  pub holds : walk_tokens (longer_marking (links_of s) p c x) walk ≡ tokens

-- a way of the present marked graph is closed by the last station and x further relay stations
abbrev pub WaysClose : Type 0
WaysClose =
    (s : System) (p : Placement) (c x : ℕ) (way : List ℕ)
    → IsWellFormed s → Fits s p → c < length s.channels
    → IsWay (marking (links_of s) p) (last_station p c) way
    → HasWalk s p c x (x + 1 + length way) ((edge_along (marking (links_of s) p) (last_station p c)).tokens + walk_tokens (marking (links_of s) p) way)
