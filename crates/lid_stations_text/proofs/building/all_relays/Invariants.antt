use Rattle.std.proofs.Common.{◌≡◌, ◌≤◌, map, take}
use Rattle.std.specs.List.{All}
use Rattle.lid_stations_text.specs.Places.{relays_at}
use Rattle.lid_stations_text.proofs.building.all_relays.Given as goal

abbrev pub invariant-loop-place : goal.invariant-loop-place
invariant-loop-place l = record {
  done : l.relays.items ≡ map (relays_at l.form l.lines) (take l.place-index l.places);
  few : All (λ k. k ≤ 64) l.relays.items;
}
