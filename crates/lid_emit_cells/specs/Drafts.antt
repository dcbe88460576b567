-- Drafts: netlists that are being written.
use Rattle.std.specs.Prelude.{ℕ, Bool, true, List, [], ◌++◌, length, map, flat_map}
use Rattle.lid_cover.specs.declared.Cube.{Cube}
use Rattle.lid_design.specs.declared.Cell.{Cell}
use Rattle.lid_design.specs.declared.Cell.TheVariants.{Names}
use Rattle.lid_emit_circuit.specs.Wires as circuit
use Rattle.lid_emit_circuit.specs.Gates.{constant}
use Rattle.lid_emit_circuit.specs.Plans.{CircuitPlan}
use Rattle.lid_emit_names.specs.Named.{cells_driving}
use Rattle.lid_emit_names.specs.Spelling as spelling
use Rattle.lid_emit_cells.specs.declared.names.Naming.{Naming}
use Rattle.lid_emit_cells.specs.declared.wire.Wire.{Wire}
use Rattle.lid_emit_cells.specs.Shown.{wire_of, design_ports}

-- what names are made of, those of the data inputs and outputs and a prefix, and the cells that are there so far
pub record Draft : Type 0 where
  pub inputs : List (List ℕ)
  pub outputs : List (List ℕ)
  pub prefix : List ℕ
  pub cells : List Cell

-- a draft without cells
abbrev pub blank : Naming → Draft
blank naming = record { inputs = naming.inputs.now; outputs = naming.outputs.now; prefix = naming.prefix.now; cells = [] }

-- the name of a wire
abbrev pub name_on : Draft → circuit.Wire → List ℕ
name_on draft wire = spelling.name_of (design_ports draft.inputs draft.outputs) draft.prefix wire

abbrev pub name_at : Draft → Wire → List ℕ
name_at draft wire = name_on draft (wire_of wire)

-- a draft with more cells
abbrev pub with_cells : Draft → List Cell → Draft
with_cells draft more = record draft { cells = draft.cells ++ more }

-- a draft with the cells of these wires of a plan
abbrev pub with_wires : CircuitPlan → Draft → List circuit.Wire → Draft
with_wires q draft wires = with_cells draft (flat_map (cells_driving q (name_on draft)) wires)

-- a cell that drives a wire where some of these cubes agrees with the wires that it reads
abbrev pub gate_cell : Draft → Wire → List Wire → List Cube → Cell
gate_cell draft wire reads cubes = Names (map (name_at draft) reads) (name_at draft wire) (record { inputs = length reads; on = true; cubes = cubes })

-- a cell that drives a wire with a constant
abbrev pub constant_cell : Draft → Wire → Bool → Cell
constant_cell draft wire bit = Names [] (name_at draft wire) (constant bit)
