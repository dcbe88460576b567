-- Laws of the names of wires.
use Rattle.std.specs.Prelude.{◌≡◌, ℕ, List, ◌++◌, length, bytes_eq}
use Rattle.std.specs.List.{IsDistinct}
use Rattle.lid_emit_circuit.specs.Plans.{CircuitPlan}
use Rattle.lid_emit_names.specs.Named.{IsNaming}
use Rattle.lid_emit_names.specs.Spelling.{PortNames, input_ports, output_ports, name_of, IsFree, AreSmall}

-- each wire of a plan has a name of its own, where ports have, and none begins with the prefix
abbrev pub WiresHaveNames : Type 0
WiresHaveNames =
    (q : CircuitPlan) (ports : PortNames) (prefix : List ℕ)
    → q.inputs ≡ length ports.inputs → length q.shows ≡ length ports.outputs
    → IsDistinct bytes_eq (input_ports ports ++ output_ports ports) → IsFree prefix (input_ports ports ++ output_ports ports)
    → AreSmall q → IsNaming q (name_of ports prefix)
