use Rattle.std.proofs.Common.{◌≡◌, ℕ, ◌+◌, List, length, get_or, Some, sym, ◌∙◌, ap, arith, []}
use Rattle.std.proofs.lemmas.Option.{slice_get-get_or}
use Rattle.lid_base.specs.Each.{from_each}
use Rattle.lid_emit_circuit.specs.Wires.{may}
use Rattle.lid_emit_cells.specs.declared.actor.Fill.{Fill}
use Rattle.lid_emit_cells.specs.Drafts.{name_on, with_wires}
use Rattle.lid_emit_cells.proofs.Drafting.{one_wire, next_wire}
use Rattle.lid_emit_cells.proofs.Ends.{begins_on}
use Rattle.lid_emit_cells.proofs.pen.Pen.push_links.Goals as goal

pub loop-i-init : goal.loop-i-init
loop-i-init c = λ q is. one_wire q c.args.self.now c.push_constant.new.self (may c.args.v 0) _ c.in_ok-push_constant.ensures (begins_on q (name_on c.args.self.now) c.args.v c.args.actor.now is)

pub push_drain-requires-clause-end : goal.push_drain-requires-clause-end
push_drain-requires-clause-end c =
    slice_get-get_or c.args.actor.now.ins c.loop-i.i 0 (omega (arith, c.loop-i-test.true, c.len-i-end.ensures))
    ∙ ap (λ (xs : List ℕ). Some (get_or xs c.loop-i.i 0)) (sym c.as_slice.ensures)

pub push_fill-requires-clause-end : goal.push_fill-requires-clause-end
push_fill-requires-clause-end c =
    slice_get-get_or c.args.actor.now.outs c.loop-k.k (record { station = 0; capacity = 0 }) (omega (arith, c.loop-k-test.true, c.len-k-end.ensures))
    ∙ ap (λ (xs : List Fill). Some (get_or xs c.loop-k.k (record { station = 0; capacity = 0 }))) (sym c.as_slice-in-loop-k.ensures)

pub loop-i-preserved : goal.loop-i-preserved
loop-i-preserved c = λ q is.
    let number : c.loop-i.i + 1 ≡ 0 + (c.loop-i.i + 1) = omega arith in
    next_wire q c.args.self.now [] (may c.args.v) 0 (c.loop-i.i + 1) (c.loop-i.i + 1) c.loop-i.self c.push_drain.new.self number (c.loop-i.invariant q is) (c.in_ok-push_drain.ensures q is)

pub loop-k-preserved : goal.loop-k-preserved
loop-k-preserved c = λ q is.
    let at = length c.args.actor.now.ins + c.loop-k.k + 1 in
    let number : at ≡ 0 + at = omega arith in
    let more : at + 1 ≡ length c.args.actor.now.ins + (c.loop-k.k + 1) + 1 = omega arith in
    next_wire q c.args.self.now [] (may c.args.v) 0 at at c.loop-k.self c.push_fill.new.self number (c.loop-k.invariant q is) (c.in_ok-push_fill.ensures q is)
    ∙ ap (λ (n : ℕ). with_wires q c.args.self.now (from_each (may c.args.v) 0 n)) more
