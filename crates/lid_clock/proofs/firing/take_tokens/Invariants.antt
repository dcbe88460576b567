use Rattle.std.proofs.Common.{◌≡◌, ℕ, ◌<◌, get_or}
use Rattle.lid_clock.specs.declared.station.ClockStation.{ClockStation}
use Rattle.lid_clock.specs.Rings.{IsStationAt, token_in}
use Rattle.lid_clock.proofs.firing.take_tokens.Given as goal

abbrev pub invariant-loop-i : goal.invariant-loop-i
invariant-loop-i l = (j : ℕ) → j < l.i → (x : ClockStation) → IsStationAt l.reads l.stations j x → get_or l.into j 0 ≡ token_in x.places x.taken
