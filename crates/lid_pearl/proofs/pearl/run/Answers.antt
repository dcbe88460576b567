use Rattle.std.proofs.Common.{◌++◌, ℕ, List, map, ◌∙◌, ap, subst}
use Rattle.lid_design.specs.Flat.{latch_input}
use Rattle.lid_strict_engine.specs.Rows.{bit_at, AreRightAt}
use Rattle.lid_strict_engine.proofs.Settling.{agrees_all}
use Rattle.lid_pearl.specs.Inside.{early_nets, late_nets}
use Rattle.lid_pearl.proofs.pearl.run.Goals as goal

pub returns-clause-state : goal.returns-clause-state
returns-clause-state c f early late state inputs =
    let shape = c.args.layout.now.shape in
    let plan = c.args.layout.now.plan in
    let latches = shape.latches.all.items in
    let ins = shape.ins.items in
    let known = early_nets latches plan.early.program in
    let put = c.put_bits.ensures.bits f known (ap (map f) c.as_slice.ensures.value ∙ inputs) (c.requires.held.settled f early state) in
    let put' = subst (λ (ks : List ℕ). AreRightAt f (ks ++ known) c.put_bits.new.bits) c.as_slice.ensures.value put in
    let run = c.settle_by_width.ensures.bits f (ins ++ known) late c.requires.laid.ordered.late_reads put' in
    c.take_bits.ensures
    ∙ ap (map (bit_at c.settle_by_width.new.bits)) (c.as_slice-2.ensures.value ∙ c.requires.laid.latches.taken)
    ∙ agrees_all f (late_nets ins latches plan.early.program plan.late.program) c.settle_by_width.new.bits (map latch_input latches) run c.requires.laid.ordered.taken_known

pub returns-clause-outs : goal.returns-clause-outs
returns-clause-outs c f early state =
    let shape = c.args.layout.now.shape in
    let plan = c.args.layout.now.plan in
    let latches = shape.latches.all.items in
    let settled = c.settle_state.ensures.settled latches (c.as_slice-3.ensures.value ∙ c.requires.laid.latches.held) f early state in
    c.take_bits-2.ensures
    ∙ ap (map (bit_at c.settle_state.new.bits)) c.as_slice-4.ensures.value
    ∙ agrees_all f (early_nets latches plan.early.program) c.settle_state.new.bits shape.outs.items settled c.requires.laid.ordered.outs_early
