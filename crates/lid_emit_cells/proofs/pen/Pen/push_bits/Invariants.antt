use Rattle.std.proofs.Common.{◌≡◌, flat_map}
use Rattle.lid_base.specs.Each.{from_each}
use Rattle.lid_emit_circuit.specs.Plans.{CircuitPlan}
use Rattle.lid_emit_circuit.specs.Lists.{bit_wires}
use Rattle.lid_emit_cells.specs.Drafts.{with_wires}
use Rattle.lid_emit_cells.specs.Matches.{IsStationOf}
use Rattle.lid_emit_cells.proofs.pen.Pen.push_bits.Given as goal

abbrev pub invariant-loop-j : goal.invariant-loop-j
invariant-loop-j l = ((q : CircuitPlan) → IsStationOf q l.fn.s l.station → l.self ≡ with_wires q l.fn.self (flat_map (bit_wires q l.fn.s) (from_each (λ j. j) 0 l.j)))
