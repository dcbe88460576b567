use Rattle.std.proofs.Common.{◌≡◌}
use Rattle.lid_base.specs.Each.{from_each}
use Rattle.lid_emit_circuit.specs.Plans.{CircuitPlan}
use Rattle.lid_emit_circuit.specs.Wires as circuit
use Rattle.lid_emit_cells.specs.Drafts.{with_wires}
use Rattle.lid_emit_cells.specs.Matches.{IsOuterOf}
use Rattle.lid_emit_cells.proofs.pen.Pen.push_showns.Given as goal

abbrev pub invariant-loop-j : goal.invariant-loop-j
invariant-loop-j l = ((q : CircuitPlan) → IsOuterOf q l.outer → l.self ≡ with_wires q l.fn.self (from_each circuit.shown 0 l.j))
