use Rattle.std.proofs.Common.{◌-◌, ◌<◌}
use Rattle.lid_stations.specs.Placements.{station_count}
use Rattle.lid_size.specs.Choices.{followed}
use Rattle.lid_size.specs.Comparing.{ReachesWith}
use Rattle.lid_size.proofs.choosing.next_capacity.Given as goal

abbrev pub invariant-loop-next : goal.invariant-loop-next
invariant-loop-next l =
    2 < l.next → ReachesWith l.placed (followed (station_count l.placed.placement.relays) l.done (l.next - 1)) → ⊥
