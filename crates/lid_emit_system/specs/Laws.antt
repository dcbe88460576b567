-- Laws of wrapped systems.
use Rattle.std.specs.Prelude.{Bool, List}
use Rattle.lid_design.specs.Network.{Table, IsStrict}
use Rattle.lid_system.specs.declared.System.{System}
use Rattle.lid_system.specs.Systems.{IsWellFormed}
use Rattle.lid_system.specs.Streams.{IsOutput}
use Rattle.lid_stations.specs.declared.placement.Placement.{Placement}
use Rattle.lid_stations.specs.Placements.{links_of, Fits}
use Rattle.lid_emit_circuit.specs.Wires.{Wire}
use Rattle.lid_emit_circuit.specs.Connected.{IsConnected}
use Rattle.lid_emit_system.specs.Nets.{NetWires, AreNetWires, FollowTables}
use Rattle.lid_emit_system.specs.Wrapping.{input_count, circuit_plan, wrapped, face_of}
use Rattle.lid_emit_system.specs.Faces.{TellsItsState, Delivers}

-- in each cycle a wrapped system tells whether it stops its source and whether it serves its sink
abbrev pub WrappedSystemsTellTheirState : Type 0
WrappedSystemsTellTheirState =
    (s : System) (p : Placement) (n : NetWires) (rows : List (List Bool)) (b : Table Wire)
    → IsWellFormed s → Fits s p → IsStrict (wrapped s p n) rows b
    → TellsItsState (links_of s) p (input_count s) rows (face_of s b)

-- and where the nets follow the tables, the rows that it delivers are the outputs for those that it accepts
abbrev pub WrappedSystemsDeliver : Type 0
WrappedSystemsDeliver =
    (s : System) (p : Placement) (n : NetWires) (rows : List (List Bool)) (b : Table Wire)
    → IsWellFormed s → Fits s p → AreNetWires s p n → FollowTables s n → IsStrict (wrapped s p n) rows b
    → Delivers (links_of s) p (input_count s) rows (face_of s b) (IsOutput s)

-- the wires of a wrapped system whose nets have wires are connected
abbrev pub WrappedSystemsAreConnected : Type 0
WrappedSystemsAreConnected = (s : System) (p : Placement) (n : NetWires) → IsWellFormed s → Fits s p → AreNetWires s p n → IsConnected (circuit_plan s p n)
