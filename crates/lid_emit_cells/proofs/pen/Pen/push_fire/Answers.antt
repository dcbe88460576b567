use Rattle.std.proofs.Common.{◌≡◌, ◌+◌, length, refl, ◌∙◌, arith}
use Rattle.std.proofs.lemmas.Bool.{eq-eqb, ne_eqb}
use Rattle.lid_base.proofs.Results.{on_ok}
use Rattle.lid_emit_circuit.specs.Wires as circuit
use Rattle.lid_emit_cells.specs.Drafts.{name_on}
use Rattle.lid_emit_cells.proofs.Drafting.{one_wire}
use Rattle.lid_emit_cells.proofs.Ends.{source_fires, sink_fires, inner_fires}
use Rattle.lid_emit_cells.proofs.pen.Pen.push_fire.Goals as goal

pub returns-then-v-eq0 : goal.returns-then-v-eq0
returns-then-v-eq0 c =
    let long : c.len.result + c.len-2.result ≡ length c.args.actor.now.ins + length c.args.actor.now.outs = omega (arith, c.len.ensures, c.len-2.ensures) in
    on_ok c.push_gate.result (λ h q is is_last. one_wire q c.args.self.now c.push_gate.new.self (circuit.fire c.args.v) _ h (source_fires q (name_on c.args.self.now) c.args.v c.args.actor.now is (c.len.result + c.len-2.result) c.args.last long (eq-eqb c.args.v 0 c.if-v-eq0.true) is_last)) c.push_gate.ensures

pub returns-then-last : goal.returns-then-last
returns-then-last c =
    let long : c.len.result + c.len-2.result ≡ length c.args.actor.now.ins + length c.args.actor.now.outs = omega (arith, c.len.ensures, c.len-2.ensures) in
    on_ok c.push_gate-then-last.result (λ h q is is_last. one_wire q c.args.self.now c.push_gate-then-last.new.self (circuit.fire c.args.v) _ h (sink_fires q (name_on c.args.self.now) c.args.v c.args.actor.now is (c.len.result + c.len-2.result) long (ne_eqb c.args.v 0 c.if-v-eq0.false) (is_last ∙ c.if-last.true))) c.push_gate-then-last.ensures

pub returns : goal.returns
returns c =
    let long : c.len.result + c.len-2.result ≡ length c.args.actor.now.ins + length c.args.actor.now.outs = omega (arith, c.len.ensures, c.len-2.ensures) in
    on_ok c.push_gate-2.result (λ h q is is_last. one_wire q c.args.self.now c.push_gate-2.new.self (circuit.fire c.args.v) _ h (inner_fires q (name_on c.args.self.now) c.args.v c.args.actor.now is (c.len.result + c.len-2.result) long (ne_eqb c.args.v 0 c.if-v-eq0.false) (is_last ∙ c.if-last.false))) c.push_gate-2.ensures
