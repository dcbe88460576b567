use Rattle.std.proofs.Common.{◌≡◌, ◌+◌}
use Rattle.lid_base.specs.Each.{from_each}
use Rattle.lid_emit_circuit.specs.Plans.{CircuitPlan}
use Rattle.lid_emit_circuit.specs.Wires.{level}
use Rattle.lid_emit_cells.specs.Drafts.{with_wires}
use Rattle.lid_emit_cells.specs.Matches.{IsStationOf}
use Rattle.lid_emit_cells.proofs.pen.Pen.push_levels.Given as goal

abbrev pub invariant-loop-i : goal.invariant-loop-i
invariant-loop-i l = ((q : CircuitPlan) → IsStationOf q l.fn.s l.station → l.self ≡ with_wires q l.fn.self (from_each (level l.fn.s) 0 (l.i + 1)))
