-- What the steps of emitting make: these definitions serve the functions that emit.
use Rattle.std.specs.Prelude.{◌≡◌, ℕ, List, [], ◌∷◌, ◌++◌, flat_map, slice_get}
use Rattle.std.specs.Option.{option_map_or}
use Rattle.lid_design.specs.declared.Design.{Design}
use Rattle.lid_design.specs.declared.Model.{Model}
use Rattle.lid_design.specs.declared.Cell.{Cell}
use Rattle.lid_design.specs.Columns.{root_inputs, root_outputs}
use Rattle.lid_system.specs.declared.System.{System}
use Rattle.lid_stations.specs.declared.placement.Placement.{Placement}
use Rattle.lid_emit_circuit.specs.Wires.{Wire}
use Rattle.lid_emit_circuit.specs.Plans.{CircuitPlan}
use Rattle.lid_emit_circuit.specs.Lists.{wires}
use Rattle.lid_emit_system.specs.Nets.{NetWires, AreNetWires}
use Rattle.lid_emit_system.specs.Wrapping.{circuit_plan}
use Rattle.lid_emit_names.specs.Named.{cells_driving}
use Rattle.lid_emit_meaning.specs.Ports.{input_names, output_names}
use Rattle.lid_emit_laws.specs.Flats.{AreFlatsOf}
use Rattle.lid_emit_laws.specs.Passing.{SkipBuffers}
use Rattle.lid_emit_names.specs.Spelling.{name_of, IsFree}
use Rattle.lid_emit_cells.specs.declared.all.All.{All}
use Rattle.lid_emit_cells.specs.Shown.{design_ports}
use Rattle.lid_emit_cells.specs.Matches.{AreAllSmall, IsAllOf}
use Rattle.lid_emit.specs.Prefixes.{IsShortPrefix}

abbrev pub root_name : Design → List ℕ
root_name d = option_map_or (λ m. m.name) (slice_get d.models d.root) []

-- names for wires: ports have those of the root's ports, and the others a prefix
abbrev pub name_with : Design → List ℕ → Wire → List ℕ
name_with d prefix wire = name_of (design_ports (root_inputs d) (root_outputs d)) prefix wire

-- stations, actors and shells are those of the plan for some wires of nets
pub record IsCircuitLaidOut (d : Design) (s : System) (p : Placement) (all : All) : Type 0 where
  pub nets : NetWires
  pub are : AreNetWires s p nets
  pub flats : AreFlatsOf d s nets
  pub skipped : SkipBuffers s nets
  pub sound : AreAllSmall all
  pub plan : IsAllOf (circuit_plan s p nets) all

-- cells for the wires of each plan that is laid out so, with a prefix with which no name of a port begins
pub record AreCells (d : Design) (all : All) (cells : List Cell) : Type 0 where
  pub prefix : List ℕ
  pub short : IsShortPrefix prefix
  pub free : IsFree prefix (root_inputs d ++ root_outputs d)
  pub each : (q : CircuitPlan) → IsAllOf q all → cells ≡ flat_map (cells_driving q (name_with d prefix)) (wires q)

abbrev pub model_with : Design → List Cell → Model
model_with d cells = record { name = root_name d; inputs = input_names d; outputs = output_names d; clocks = []; cells = cells; insts = [] }

abbrev pub design_with : Model → Design
design_with m = record { models = m ∷ []; root = 0 }
