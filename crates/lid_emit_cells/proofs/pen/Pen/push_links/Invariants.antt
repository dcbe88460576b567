use Rattle.std.proofs.Common.{◌≡◌, ◌+◌, length}
use Rattle.lid_base.specs.Each.{from_each}
use Rattle.lid_emit_circuit.specs.Plans.{CircuitPlan}
use Rattle.lid_emit_circuit.specs.Wires.{may}
use Rattle.lid_emit_cells.specs.Drafts.{with_wires}
use Rattle.lid_emit_cells.specs.Matches.{IsActorOf}
use Rattle.lid_emit_cells.proofs.pen.Pen.push_links.Given as goal

abbrev pub invariant-loop-i : goal.invariant-loop-i
invariant-loop-i l = ((q : CircuitPlan) → IsActorOf q l.fn.v l.actor → l.self ≡ with_wires q l.fn.self (from_each (may l.fn.v) 0 (l.i + 1)))

abbrev pub invariant-loop-k : goal.invariant-loop-k
invariant-loop-k l = ((q : CircuitPlan) → IsActorOf q l.fn.v l.actor → l.self ≡ with_wires q l.fn.self (from_each (may l.fn.v) 0 (length l.actor.ins + l.k + 1)))
