-- The plan of a system with its stations.
use Rattle.lid_stations.specs.Placed.{Placing}
use Rattle.lid_emit_circuit.specs.Plans.{CircuitPlan}
use Rattle.lid_emit_system.specs.Nets.{NetWires}
use Rattle.lid_emit_system.specs.Wrapping.{circuit_plan}

abbrev pub plan_of : Placing → NetWires → CircuitPlan
plan_of placed nets = circuit_plan placed.system placed.placement nets
