-- Laws of designs of named wires.
use Rattle.std.specs.Prelude.{ℕ, ◌≤◌, Bool, List, length}
use Rattle.lid_design.specs.Network.{Table, IsStrict}
use Rattle.lid_design.specs.Columns.{Column, drivers}
use Rattle.lid_design.specs.WellFormed.{IsWellFormed}
use Rattle.lid_check.specs.Acceptance.{IsAccepted}
use Rattle.lid_emit_circuit.specs.Wires.{Wire}
use Rattle.lid_emit_circuit.specs.Plans.{CircuitPlan}
use Rattle.lid_emit_circuit.specs.Network.{emitted}
use Rattle.lid_emit_circuit.specs.Connected.{IsConnected}
use Rattle.lid_emit_circuit.specs.Lists.{wires}
use Rattle.lid_emit_names.specs.Named.{named_design, IsNaming, seen_at}

abbrev pub NamedDesignsAreWellFormed : Type 0
NamedDesignsAreWellFormed = (q : CircuitPlan) (name : Wire → List ℕ) (root : List ℕ) → IsConnected q → IsWellFormed (named_design q name root)

-- they are accepted where no limit is exceeded
abbrev pub NamedDesignsAreAccepted : Type 0
NamedDesignsAreAccepted =
    (q : CircuitPlan) (name : Wire → List ℕ) (root : List ℕ)
    → IsConnected q → IsNaming q name → length (wires q) ≤ 262144 → q.inputs ≤ 786430
    → IsAccepted (named_design q name root)

-- each strict table of the design is one of the network
abbrev pub NamedDesignsRunAsNetworks : Type 0
NamedDesignsRunAsNetworks =
    (q : CircuitPlan) (name : Wire → List ℕ) (root : List ℕ) (rows : List (List Bool)) (b : Table Column)
    → IsConnected q → IsNaming q name → IsStrict (drivers (named_design q name root)) rows b
    → IsStrict (emitted q) rows (seen_at name b)
