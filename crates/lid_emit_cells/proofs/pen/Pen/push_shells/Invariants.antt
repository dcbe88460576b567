use Rattle.std.proofs.Common.{◌≡◌, flat_map}
use Rattle.lid_base.specs.Each.{from_each}
use Rattle.lid_emit_circuit.specs.Plans.{CircuitPlan}
use Rattle.lid_emit_circuit.specs.Lists.{shell_wires}
use Rattle.lid_emit_cells.specs.Drafts.{with_wires}
use Rattle.lid_emit_cells.specs.Matches.{IsAllOf}
use Rattle.lid_emit_cells.proofs.pen.Pen.push_shells.Given as goal

abbrev pub invariant-loop-i : goal.invariant-loop-i
invariant-loop-i l = ((q : CircuitPlan) → IsAllOf q l.all → l.self ≡ with_wires q l.fn.self (flat_map (shell_wires q) (from_each (λ i. i) 1 l.i)))
