use Rattle.std.proofs.Common.{◌≡◌}
use Rattle.lid_clock_flat.specs.Ends.{EndsSettle}
use Rattle.lid_clock_flat.proofs.settling.settle_ends.Given as goal

-- the stations before this one have settled
abbrev pub invariant-loop-i : goal.invariant-loop-i
invariant-loop-i l = record {
  settle : EndsSettle l.reads l.loses l.i l.initial.stations.all.items l.stations.all.items l.initial.awake.items l.awake.items;
  kept : l.stations.places ≡ l.initial.stations.places;
}
