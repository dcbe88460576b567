-- Laws of the bounds of wrapped designs.
use Rattle.std.specs.Prelude.{ℕ, ◌≤◌, List, length, flat_map}
use Rattle.lid_design.specs.declared.Design.{Design}
use Rattle.lid_design.specs.declared.Cell.{Cell}
use Rattle.lid_blifout.specs.Canonical.{canonical_text}
use Rattle.lid_blifout.specs.Writable.{cells_rows}
use Rattle.lid_system.specs.declared.System.{System}
use Rattle.lid_system.specs.Systems.{IsWellFormed}
use Rattle.lid_net_law.specs.Agreement.{IsSystemOf}
use Rattle.lid_stations.specs.declared.placement.Placement.{Placement}
use Rattle.lid_stations.specs.Placements.{links_of, Fits}
use Rattle.lid_emit_circuit.specs.Wires.{Wire}
use Rattle.lid_emit_circuit.specs.Plans.{CircuitPlan}
use Rattle.lid_emit_circuit.specs.Lists.{wires}
use Rattle.lid_emit_system.specs.Nets.{NetWires, AreNetWires}
use Rattle.lid_emit_system.specs.Wrapping.{circuit_plan}
use Rattle.lid_emit_names.specs.Named.{cells_driving, named_design}
use Rattle.lid_emit_laws.specs.Flats.{AreFlatsOf, ArePortNames}
use Rattle.lid_emit_meaning.specs.Sizes.{size}
use Rattle.lid_emit_laws.specs.Passing.{SkipBuffers}
use Rattle.lid_emit_laws.specs.Shortness.{AreShort}

-- the cells of a plan under names
abbrev pub plan_cells : CircuitPlan → (Wire → List ℕ) → List Cell
plan_cells q name = flat_map (cells_driving q name) (wires q)

-- cells within the limits of netlists
pub record AreFew (made : List Cell) : Type 0 where
  pub cells : length made ≤ 262144
  pub rows : cells_rows made ≤ 1048576

-- where the nets that covers pass on are skipped, a wrapped system of a size up to 16,384 has few cells
abbrev pub WrappedDesignsAreSmall : Type 0
WrappedDesignsAreSmall =
    (d : Design) (s : System) (p : Placement) (n : NetWires) (name : Wire → List ℕ)
    → IsSystemOf d s → IsWellFormed s → Fits s p
    → AreNetWires s p n → AreFlatsOf d s n → SkipBuffers s n → size d (links_of s) p ≤ 16384
    → AreFew (plan_cells (circuit_plan s p n) name)

-- and where its names are short, a short text
abbrev pub WrappedDesignsHaveShortTexts : Type 0
WrappedDesignsHaveShortTexts =
    (d : Design) (s : System) (p : Placement) (n : NetWires) (name : Wire → List ℕ) (root : List ℕ)
    → IsSystemOf d s → IsWellFormed s → Fits s p
    → AreNetWires s p n → AreFlatsOf d s n → SkipBuffers s n → size d (links_of s) p ≤ 16384
    → AreShort (circuit_plan s p n) name → ArePortNames d name → length root ≤ 1024
    → length (canonical_text (named_design (circuit_plan s p n) name root)) ≤ 16777216
