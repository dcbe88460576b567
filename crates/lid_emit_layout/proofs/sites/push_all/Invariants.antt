use Rattle.std.proofs.Common.{◌≡◌, take}
use Rattle.lid_system.specs.declared.System.{System}
use Rattle.lid_stations.specs.Placements.{links_of, station_count}
use Rattle.lid_stations.specs.Markings.{marking}
use Rattle.lid_emit_layout.specs.Sites.{AreSites}
use Rattle.lid_emit_layout.proofs.sites.push_all.Given as goal

abbrev pub invariant-loop-c : goal.invariant-loop-c
invariant-loop-c l = record {
  counted : l.first ≡ station_count (take l.c l.placement.relays);
  sites : (s : System) → l.graph ≡ marking (links_of s) l.placement → AreSites s l.placement 0 l.fn.sites.items → AreSites s l.placement l.first l.sites.items;
}
