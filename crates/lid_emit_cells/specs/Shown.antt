-- What wires and ports of the program stand for.
use Rattle.std.specs.Prelude.{ℕ, List}
use Rattle.lid_emit_circuit.specs.Wires as circuit
use Rattle.lid_emit_names.specs.Spelling as spelling
use Rattle.lid_emit_meaning.specs.Ports.{offer_name, block_name, valid_name, stop_name}
use Rattle.lid_design.specs.declared.Cell.{Cell}
use Rattle.lid_emit_circuit.specs.Plans.{CircuitPlan}
use Rattle.lid_emit_names.specs.Named.{cells_driving}
use Rattle.lid_emit_cells.specs.declared.names.Naming.{Naming}
use Rattle.lid_emit_cells.specs.declared.wire.Wire.{Wire}
use Rattle.lid_emit_cells.specs.declared.wire.Wire.TheVariants.{Entry, Given, Offer, Block, Steady, May, Fire, Level, Grown, Place, Moved, Now, Kept, Later, Shown, Valid, Stop}

abbrev pub wire_of : Wire → circuit.Wire
wire_of (Entry j) = circuit.entry j
wire_of (Given j) = circuit.given j
wire_of Offer = circuit.offer
wire_of Block = circuit.block
wire_of (Steady bit) = circuit.steady bit
wire_of (May v i) = circuit.may v i
wire_of (Fire v) = circuit.fire v
wire_of (Level s i) = circuit.level s i
wire_of (Grown s i) = circuit.grown s i
wire_of (Place s i j) = circuit.place s i j
wire_of (Moved s i j) = circuit.moved s i j
wire_of (Now v k) = circuit.now v k
wire_of (Kept v k) = circuit.kept v k
wire_of (Later v k) = circuit.later v k
wire_of (Shown j) = circuit.shown j
wire_of Valid = circuit.valid
wire_of Stop = circuit.stop

-- the ports of a design with these data inputs and outputs
abbrev pub design_ports : List (List ℕ) → List (List ℕ) → spelling.PortNames
design_ports inputs outputs = record { inputs = inputs; outputs = outputs; offer = offer_name; block = block_name; valid = valid_name; stop = stop_name }

-- the name of a wire by what names are made of
abbrev pub name_by : Naming → circuit.Wire → List ℕ
name_by naming wire = spelling.name_of (design_ports naming.inputs.now naming.outputs.now) naming.prefix.now wire

-- the cells of a wire of a plan
abbrev pub cells_by : CircuitPlan → Naming → circuit.Wire → List Cell
cells_by q naming wire = cells_driving q (name_by naming) wire
