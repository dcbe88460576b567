-- Laws of the wires of a plan.
use Rattle.std.specs.Prelude.{◌≡◌, ◌⊎◌, true}
use Rattle.lid_base.specs.Lists.{Among}
use Rattle.lid_design.specs.Network.{Driver}
use Rattle.lid_emit_circuit.specs.Wires.{Wire}
use Rattle.lid_emit_circuit.specs.Plans.{CircuitPlan}
use Rattle.lid_emit_circuit.specs.Network.{emitted}
use Rattle.lid_emit_circuit.specs.Known.{IsKnown, is_outer}
use Rattle.lid_emit_circuit.specs.Connected.{IsConnected, IsDrivenByCell}
use Rattle.lid_emit_circuit.specs.Lists.{AreListed}

-- each wire of the plan is an input, or has one cell
abbrev pub WiresHaveCells : Type 0
WiresHaveCells = (q : CircuitPlan) (wire : Wire) → IsConnected q → IsKnown q wire → (is_outer wire ≡ true) ⊎ IsDrivenByCell q wire

-- and nothing drives any other
abbrev pub OthersAreNotDriven : Type 0
OthersAreNotDriven = (q : CircuitPlan) (wire : Wire) (source : Driver Wire) → IsConnected q → Among source (emitted q wire) → IsKnown q wire

-- the wires are listed
abbrev pub WiresAreListed : Type 0
WiresAreListed = (q : CircuitPlan) → IsConnected q → AreListed q
