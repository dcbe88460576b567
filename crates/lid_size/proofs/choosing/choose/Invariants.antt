use Rattle.std.proofs.Common.{◌≡◌, length}
use Rattle.lid_stations.specs.Placements.{station_count}
use Rattle.lid_size.specs.Choices.{AreChosen}
use Rattle.lid_size.specs.Comparing.{ReachesWith}
use Rattle.lid_size.proofs.choosing.choose.Given as goal

abbrev pub invariant-loop : goal.invariant-loop
invariant-loop l = record {
  chosen : AreChosen (ReachesWith l.placed) (station_count l.placed.placement.relays) l.done.items;
  long : length l.done.items ≡ l.counter;
}
