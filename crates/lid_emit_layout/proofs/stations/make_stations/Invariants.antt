use Rattle.std.proofs.Common.{◌≡◌, ℕ, length, slice_get, Some}
use Rattle.lid_emit_cells.specs.declared.station.Station.{Station}
use Rattle.lid_emit_cells.specs.Matches.{IsStationOf, IsSmallStation}
use Rattle.lid_emit_layout.specs.Plans.{plan_of}
use Rattle.lid_emit_shells.specs.Shells.{nets_of}
use Rattle.lid_emit_layout.proofs.stations.make_stations.Given as goal

abbrev pub invariant-loop-site : goal.invariant-loop-site
invariant-loop-site l = record {
  many : length l.stations.items ≡ l.site-index;
  each : (i : ℕ) (x : Station) → slice_get l.stations.items i ≡ Some x → IsStationOf (plan_of l.placed (nets_of l.shells)) i x × IsSmallStation x;
}
