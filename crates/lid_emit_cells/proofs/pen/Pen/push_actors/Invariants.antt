use Rattle.std.proofs.Common.{◌≡◌, flat_map}
use Rattle.lid_base.specs.Each.{from_each}
use Rattle.lid_emit_circuit.specs.Plans.{CircuitPlan}
use Rattle.lid_emit_circuit.specs.Lists.{actor_wires}
use Rattle.lid_emit_cells.specs.Drafts.{with_wires}
use Rattle.lid_emit_cells.specs.Matches.{IsAllOf}
use Rattle.lid_emit_cells.proofs.pen.Pen.push_actors.Given as goal

abbrev pub invariant-loop-v : goal.invariant-loop-v
invariant-loop-v l = ((q : CircuitPlan) → IsAllOf q l.all → l.self ≡ with_wires q l.fn.self (flat_map (actor_wires q) (from_each (λ v. v) 0 l.v)))
