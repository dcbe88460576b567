-- The wires of a plan that have cells, in the order in which these are made.
use Rattle.std.specs.Prelude.{◌≡◌, ◌↔◌, ℕ, ◌+◌, true, false, if◌then◌else◌, List, [], ◌∷◌, ◌++◌, length, flat_map}
use Rattle.lid_base.specs.Lists.{Among, AreOnce}
use Rattle.lid_design.specs.declared.FlatLatch.{FlatLatch}
use Rattle.lid_design.specs.declared.FlatCover.{FlatCover}
use Rattle.lid_base.specs.Each.{from_each}
use Rattle.lid_emit_circuit.specs.Wires.{Wire, given, steady, may, fire, level, grown, place, moved, now, kept, later, shown, valid, stop}
use Rattle.lid_emit_circuit.specs.Plans.{CircuitPlan, ends}
use Rattle.lid_emit_circuit.specs.Known.{IsKnown, is_outer}

abbrev pub outer_wires : CircuitPlan → List Wire
outer_wires q = from_each given 0 q.inputs ++ steady false ∷ steady true ∷ valid ∷ stop ∷ from_each shown 0 (length q.shows)

-- a bit of the tokens of a station
abbrev pub bit_wires : CircuitPlan → ℕ → ℕ → List Wire
bit_wires q s j = from_each (λ i. place s i j) 0 (q.capacity s + 1) ++ from_each (λ i. moved s i j) 0 (q.capacity s)

abbrev pub station_wires : CircuitPlan → ℕ → List Wire
station_wires q s = from_each (level s) 0 (q.capacity s + 2) ++ (from_each (grown s) 1 (q.capacity s) ++ flat_map (bit_wires q s) (from_each (λ j. j) 0 (q.width s)))

abbrev pub actor_wires : CircuitPlan → ℕ → List Wire
actor_wires q v = from_each (may v) 0 (length (ends q v) + 1) ++ fire v ∷ []

abbrev pub latch_wires : ℕ → FlatLatch → List Wire
latch_wires v l = now v l.out ∷ kept v l.out ∷ []

abbrev pub cover_wires : CircuitPlan → ℕ → FlatCover → List Wire
cover_wires q v c = if q.skips v c.out then [] else now v c.out ∷ later v c.out ∷ []

abbrev pub shell_wires : CircuitPlan → ℕ → List Wire
shell_wires q v = flat_map (latch_wires v) (q.flat v).latches ++ flat_map (cover_wires q v) (q.flat v).covers

abbrev pub wires : CircuitPlan → List Wire
wires q =
    outer_wires q
    ++ (flat_map (station_wires q) (from_each (λ s. s) 0 q.stations)
    ++ (flat_map (actor_wires q) (from_each (λ v. v) 0 q.actors)
    ++ flat_map (shell_wires q) (from_each (λ v. v) 0 q.nodes)))

-- the list has each wire of the plan that no input drives, once
pub record AreListed (q : CircuitPlan) : Type 0 where
  pub each : (wire : Wire) → Among wire (wires q) ↔ (IsKnown q wire × (is_outer wire ≡ false))
  pub once : AreOnce (wires q)
