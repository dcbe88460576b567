use Rattle.std.proofs.Common.{◌≡◌, ℕ, ◌==◌, ◌+◌, length, ap, arith}
use Rattle.lid_emit_circuit.specs.Lists.{actor_wires}
use Rattle.lid_emit_cells.proofs.Drafting.{no_wires, next_wires}
use Rattle.lid_emit_cells.proofs.Alls.{item_there}
use Rattle.lid_emit_cells.proofs.pen.Pen.push_actors.Goals as goal

pub loop-v-init : goal.loop-v-init
loop-v-init c = λ q is. no_wires q c.args.self.now

pub loop-v-preserved : goal.loop-v-preserved
loop-v-preserved c = λ q is.
    let number : c.loop-v.v ≡ 0 + c.loop-v.v = omega arith in
    next_wires q c.args.self.now (actor_wires q) 0 c.loop-v.v c.loop-v.v c.loop-v.self c.push_actor.new.self number (c.loop-v.invariant q is)
    (c.in_ok-push_actor.ensures q (is.each_actor c.loop-v.v c.index-as_slice-v.result (item_there c.args.all.now.actors c.as_slice.result.now c.loop-v.v c.index-as_slice-v.result c.as_slice.ensures (omega (arith, c.loop-v-test.true, c.len-v-end.ensures, ap length c.as_slice.ensures)) c.index-as_slice-v.is)) (ap (λ (n : ℕ). c.loop-v.v == n) is.outer.last))
