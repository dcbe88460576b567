-- The wires of a plan under names: a design of one model.
use Rattle.std.specs.Prelude.{◌≡◌, ℕ, Bool, true, false, List, [], ◌∷◌, ◌++◌, length, map, flat_map, None}
use Rattle.lid_cover.specs.declared.Cover.{Cover}
use Rattle.lid_cover.specs.declared.Cube.{Cube}
use Rattle.lid_design.specs.declared.Design.{Design}
use Rattle.lid_design.specs.declared.Model.{Model}
use Rattle.lid_design.specs.declared.Cell.{Cell}
use Rattle.lid_design.specs.declared.Cell.TheVariants.{Names, Latch}
use Rattle.lid_design.specs.declared.LatchKind.TheVariants.{Plain}
use Rattle.lid_design.specs.declared.Init.{Init}
use Rattle.lid_design.specs.declared.Init.TheVariants.{Zero, One}
use Rattle.lid_design.specs.Network.{Driver, from_input, from_latch, from_cover, from_connection, Table}
use Rattle.lid_base.specs.Each.{from_each}
use Rattle.lid_design.specs.Columns.{Column, column}
use Rattle.lid_emit_circuit.specs.Wires.{Wire, entry, offer, block, shown, valid, stop}
use Rattle.lid_emit_circuit.specs.Plans.{CircuitPlan}
use Rattle.lid_emit_circuit.specs.Network.{emitted}
use Rattle.lid_emit_circuit.specs.Known.{IsKnown}
use Rattle.lid_emit_circuit.specs.Lists.{wires}

-- a cover that can be written: one without rows, which is read as `on`, has a row where it is always 1
abbrev pub with_rows : ℕ → Bool → List Cube → Cover
with_rows inputs true cubes = record { inputs = inputs; on = true; cubes = cubes }
with_rows inputs false [] = record { inputs = inputs; on = true; cubes = record { care = 0; value = 0 } ∷ [] }
with_rows inputs false (cube ∷ cubes) = record { inputs = inputs; on = false; cubes = cube ∷ cubes }

abbrev pub written : Cover → Cover
written cover = with_rows cover.inputs cover.on cover.cubes

abbrev pub init_of : Bool → Init
init_of true = One
init_of false = Zero

-- the cell that drives a wire so
abbrev pub cell_of : (Wire → List ℕ) → Wire → Driver Wire → List Cell
cell_of name wire (from_input j) = []
cell_of name wire (from_latch first input) = Latch (name input) (name wire) Plain None (init_of first) ∷ []
cell_of name wire (from_cover cover reads) = Names (map name reads) (name wire) (written cover) ∷ []
cell_of name wire (from_connection other) = []

abbrev pub cells_driving : CircuitPlan → (Wire → List ℕ) → Wire → List Cell
cells_driving q name wire = flat_map (cell_of name wire) (emitted q wire)

abbrev pub input_wires : CircuitPlan → List Wire
input_wires q = from_each entry 0 q.inputs ++ offer ∷ block ∷ []

abbrev pub output_wires : CircuitPlan → List Wire
output_wires q = from_each shown 0 (length q.shows) ++ valid ∷ stop ∷ []

abbrev pub named_model : CircuitPlan → (Wire → List ℕ) → List ℕ → Model
named_model q name root = record {
  name = root;
  inputs = map name (input_wires q);
  outputs = map name (output_wires q);
  clocks = [];
  cells = flat_map (cells_driving q name) (wires q);
  insts = [];
}

abbrev pub named_design : CircuitPlan → (Wire → List ℕ) → List ℕ → Design
named_design q name root = record { models = named_model q name root ∷ []; root = 0 }

-- each wire of the plan has a name of its own
abbrev pub IsNaming : CircuitPlan → (Wire → List ℕ) → Type 0
IsNaming q name = (wire other : Wire) → IsKnown q wire → IsKnown q other → name wire ≡ name other → wire ≡ other

-- a table of a design of named wires, seen at these
abbrev pub seen_at : (Wire → List ℕ) → Table Column → Table Wire
seen_at name b t wire = b t (column [] (name wire))
