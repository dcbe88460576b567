use Rattle.std.proofs.Common.{◌≡◌, min}
use Rattle.lid_stations.specs.Placed.{links_in}
use Rattle.lid_emit_meaning.specs.Sizes.{sizes_from}
use Rattle.lid_emit.proofs.stations.channel_size.Given as goal

abbrev pub invariant-loop-place : goal.invariant-loop-place
invariant-loop-place l = l.size ≡ min (sizes_from (links_in l.placed) l.placed.placement l.station l.place) 18446744073709551615
