use Rattle.std.proofs.Common.{ℕ, ◌<◌, ◌+◌, length}
use Rattle.lid_clock.specs.declared.station.ClockStation.{ClockStation}
use Rattle.lid_clock.specs.Rings.{IsStationAt}
use Rattle.lid_clock.proofs.firing.all_have_room.Given as goal

abbrev pub invariant-loop-read : goal.invariant-loop-read
invariant-loop-read l = (i : ℕ) → i < l.read-index → (x : ClockStation) → IsStationAt l.reads l.stations i x → x.put < x.taken + length x.places
