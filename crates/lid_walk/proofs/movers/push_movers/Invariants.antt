use Rattle.std.proofs.Common.{◌≡◌, take}
use Rattle.lid_stations.specs.Placed.{links_in}
use Rattle.lid_stations.specs.Placements.{station_count}
use Rattle.lid_stations.specs.Stations.{mover}
use Rattle.lid_texts_packed.specs.Input.{input_of}
use Rattle.lid_walk.specs.Inside.{AreFirstActors}
use Rattle.lid_walk.proofs.movers.push_movers.Given as goal

abbrev pub invariant-loop-c : goal.invariant-loop-c
invariant-loop-c l = record {
  counted : l.first ≡ station_count (take l.c l.placed.placement.relays);
  moved : AreFirstActors l.placed (input_of l.rows) (mover (links_in l.placed) l.placed.placement l.c 0) l.actors.items;
}
