use Rattle.std.proofs.Common.{ℕ, ◌<◌}
use Rattle.lid_clock_flat.specs.declared.station.FlatStation.{FlatStation}
use Rattle.lid_clock_flat.specs.Reads.{IsReadAt}
use Rattle.lid_clock_flat.proofs.reads.all_hold.Given as goal

abbrev pub invariant-loop-read : goal.invariant-loop-read
invariant-loop-read l = (i : ℕ) → i < l.read-index → (x : FlatStation) → IsReadAt l.reads l.stations i x → 0 < x.held
