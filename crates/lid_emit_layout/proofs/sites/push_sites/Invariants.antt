use Rattle.std.proofs.Common.{◌≡◌, ◌+◌}
use Rattle.lid_system.specs.declared.System.{System}
use Rattle.lid_stations.specs.Placements.{links_of}
use Rattle.lid_stations.specs.Markings.{marking}
use Rattle.lid_emit_layout.specs.Sites.{AreSites}
use Rattle.lid_emit_layout.proofs.sites.push_sites.Given as goal

abbrev pub invariant-loop-place : goal.invariant-loop-place
invariant-loop-place l = (s : System) → l.graph ≡ marking (links_of s) l.placement → AreSites s l.placement l.first l.fn.sites.items → AreSites s l.placement (l.first + l.place) l.sites.items
