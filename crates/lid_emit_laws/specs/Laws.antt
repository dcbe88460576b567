-- Laws of emitted designs.
use Rattle.std.specs.Prelude.{ℕ, Bool, List}
use Rattle.lid_design.specs.declared.Design.{Design}
use Rattle.lid_design.specs.Network.{Table, IsStrict}
use Rattle.lid_design.specs.Columns.{Column, drivers, root_outputs}
use Rattle.lid_design.specs.WellFormed.{IsWellFormed}
use Rattle.lid_check.specs.Acceptance.{IsAccepted}
use Rattle.lid_system.specs.declared.System.{System}
use Rattle.lid_system.specs.Systems as system
use Rattle.lid_net_law.specs.Agreement.{IsSystemOf}
use Rattle.lid_stations.specs.declared.placement.Placement.{Placement}
use Rattle.lid_stations.specs.Placements.{links_of, Fits}
use Rattle.lid_emit_circuit.specs.Wires.{Wire}
use Rattle.lid_emit_system.specs.Nets.{NetWires, AreNetWires, FollowTables}
use Rattle.lid_emit_system.specs.Wrapping.{circuit_plan}
use Rattle.lid_emit_names.specs.Named.{named_design, IsNaming}
use Rattle.lid_emit_laws.specs.Flats.{AreFlatsOf, ArePortNames}
use Rattle.lid_emit_meaning.specs.Runs.{face_of, RunsAs}

-- flat parts of pearls follow the tables of the system
abbrev pub FlatsFollowTables : Type 0
FlatsFollowTables =
    (d : Design) (s : System) (n : NetWires)
    → IsWellFormed d → IsAccepted d → IsSystemOf d s → system.IsWellFormed s → AreFlatsOf d s n
    → FollowTables s n

-- the wrapped system under names runs as the design
abbrev pub EmittedDesignsRun : Type 0
EmittedDesignsRun =
    (d : Design) (s : System) (p : Placement) (n : NetWires) (name : Wire → List ℕ) (root : List ℕ)
    → IsWellFormed d → IsAccepted d → IsSystemOf d s → system.IsWellFormed s → Fits s p
    → AreNetWires s p n → AreFlatsOf d s n → IsNaming (circuit_plan s p n) name → ArePortNames d name
    → (rows : List (List Bool)) (b : Table Column) → IsStrict (drivers (named_design (circuit_plan s p n) name root)) rows b
    → RunsAs d (links_of s) p rows (face_of (root_outputs d) b)
