use Rattle.std.proofs.Common.{◌≡◌, flat_map, take}
use Rattle.lid_stations_text.specs.Places.{caps_at}
use Rattle.lid_stations_text.proofs.building.all_caps.Given as goal

abbrev pub invariant-loop-place : goal.invariant-loop-place
invariant-loop-place l = record {
  done : l.caps.items ≡ flat_map (caps_at l.form l.lines) (take l.place-index l.places);
}
