-- Where the stations of a wrapped system stand.
use Rattle.std.specs.Prelude.{◌≡◌, ℕ, ◌+◌, ◌<◌, ◌≤◌, List, length, Some, slice_get}
use Rattle.lid_system.specs.declared.System.{System}
use Rattle.lid_graph.specs.declared.graph.Graph.{Graph}
use Rattle.lid_stations.specs.declared.placement.Placement.{Placement}
use Rattle.lid_stations.specs.Placements.{links_of, station_count, IsPlacement}
use Rattle.lid_stations.specs.Stations.{filler, drainer}
use Rattle.lid_stations.specs.Laws.{StandsAt}
use Rattle.lid_emit_layout.specs.declared.sites.Site.{Site}

-- a station of a system: where it stands, and the actors at its ends
pub record IsSite (s : System) (p : Placement) (site : Site) : Type 0 where
  pub there : site.station < station_count p.relays
  pub stands : StandsAt p.relays site.station site.channel site.place
  pub filled : filler (links_of s) p site.station ≡ site.filler
  pub drained : drainer (links_of s) p site.station ≡ site.drainer

-- the first n stations, in order
pub record AreSites (s : System) (p : Placement) (n : ℕ) (sites : List Site) : Type 0 where
  pub many : length sites ≡ n
  pub each : (i : ℕ) (site : Site) → slice_get sites i ≡ Some site → (site.station ≡ i) × IsSite s p site

-- serves the bodies: a graph has two edges for each station of a placement
pub record HasEdges (p : Placement) (g : Graph) : Type 0 where
  pub rules : IsPlacement p
  pub edges : station_count p.relays + station_count p.relays ≤ length g.edges
