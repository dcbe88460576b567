-- The wires of a plan, and those that inputs drive.
use Rattle.std.specs.Prelude.{◌≡◌, ◌⊎◌, ⊤, ℕ, zero, suc, ◌+◌, ◌<◌, ◌≤◌, Bool, true, false, length}
use Rattle.lid_base.specs.Lists.{Among}
use Rattle.lid_design.specs.declared.FlatLatch.{FlatLatch}
use Rattle.lid_design.specs.declared.FlatCover.{FlatCover}
use Rattle.lid_emit_circuit.specs.Wires.{Wire, entry, given, offer, block, steady, may, fire, level, grown, place, moved, now, kept, later, shown, valid, stop}
use Rattle.lid_emit_circuit.specs.Plans.{CircuitPlan, ends}

-- net k of shell v is that of a latch
abbrev pub IsLatchNet : CircuitPlan → ℕ → ℕ → Type 0
IsLatchNet q v k = (l : FlatLatch) × Among l (q.flat v).latches × (l.out ≡ k)

-- or of a cover that has cells
abbrev pub IsCoverNet : CircuitPlan → ℕ → ℕ → Type 0
IsCoverNet q v k = (c : FlatCover) × Among c (q.flat v).covers × (c.out ≡ k) × (q.skips v k ≡ false)

-- a wire of the plan
abbrev pub IsKnown : CircuitPlan → Wire → Type 0
IsKnown q (entry j) = j < q.inputs
IsKnown q (given j) = j < q.inputs
IsKnown q offer = ⊤
IsKnown q block = ⊤
IsKnown q (steady bit) = ⊤
IsKnown q (may v i) = (v < q.actors) × (i ≤ length (ends q v))
IsKnown q (fire v) = v < q.actors
IsKnown q (level s i) = (s < q.stations) × (i ≤ q.capacity s + 1)
IsKnown q (grown s zero) = ⊥
IsKnown q (grown s (suc i)) = (s < q.stations) × (i < q.capacity s)
IsKnown q (place s i j) = (s < q.stations) × (i ≤ q.capacity s) × (j < q.width s)
IsKnown q (moved s i j) = (s < q.stations) × (i < q.capacity s) × (j < q.width s)
IsKnown q (now v k) = IsLatchNet q v k ⊎ IsCoverNet q v k
IsKnown q (kept v k) = IsLatchNet q v k
IsKnown q (later v k) = IsCoverNet q v k
IsKnown q (shown j) = j < length q.shows
IsKnown q valid = ⊤
IsKnown q stop = ⊤

-- wires that inputs of the network drive
abbrev pub is_outer : Wire → Bool
is_outer (entry j) = true
is_outer offer = true
is_outer block = true
is_outer other = false

-- wires to which an input leads in the same row
abbrev pub is_late : Wire → Bool
is_late (entry j) = true
is_late (given j) = true
is_late offer = true
is_late block = true
is_late (fire v) = true
is_late (grown s i) = true
is_late (moved s i j) = true
is_late (kept v k) = true
is_late other = false
