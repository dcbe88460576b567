use Rattle.std.proofs.Common.{◌≡◌, flat_map}
use Rattle.lid_base.specs.Each.{from_each}
use Rattle.lid_emit_circuit.specs.Plans.{CircuitPlan}
use Rattle.lid_emit_circuit.specs.Lists.{station_wires}
use Rattle.lid_emit_cells.specs.Drafts.{with_wires}
use Rattle.lid_emit_cells.specs.Matches.{IsAllOf}
use Rattle.lid_emit_cells.proofs.pen.Pen.push_stations.Given as goal

abbrev pub invariant-loop-s : goal.invariant-loop-s
invariant-loop-s l = ((q : CircuitPlan) → IsAllOf q l.all → l.self ≡ with_wires q l.fn.self (flat_map (station_wires q) (from_each (λ s. s) 0 l.s)))
