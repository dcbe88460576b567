use Rattle.std.proofs.Common.{◌++◌, Bool, List, length, take, drop, sym, ◌∙◌, ap, subst}
use Rattle.std.specs.Arc.{arc_value}
use Rattle.lid_pearl.specs.declared.pearl.Layout.{Layout}
use Rattle.lid_pearl.specs.Pearls.{View, Steps}
use Rattle.lid_pearl.specs.Inside.{AreHeld}
use Rattle.lid_pearl.proofs.Stepping.{view_of, steps_of}
use Rattle.lid_base.proofs.Lists.{refilled}
use Rattle.lid_pearl.proofs.pearl.Pearl.step.Goals as goal

-- what is seen of a layout and a state
abbrev seen : Layout → List Bool → View
seen l = view_of l.shape.nets l.shape.ins.items l.shape.outs.items l.shape.latches.all.items l.plan.early.program l.plan.late.program

pub returns : goal.returns
returns c =
    let row = c.self.inside.row in
    let inputs = c.args.inputs.now in
    let into = c.run.new.into in
    let value = c.as_mut_slice.ensures.value in
    let run = c.run.ensures in
    let lent = c.deref.result.now in
    let held = subst (λ (l : Layout). AreHeld l c.run.new.state c.run.new.bits) c.deref.ensures run.held in
    let long = held.state_size ∙ sym c.self.invariant.1.state_size ∙ sym (ap length value) ∙ c.as_mut_slice.ensures.len in
    let steps : Steps (seen lent row.state.items) inputs (seen lent c.run.new.state) into =
    steps_of lent.shape.nets lent.shape.ins.items lent.shape.outs.items lent.shape.latches.all.items lent.plan.early.program lent.plan.late.program row.state.items inputs c.run.new.state into
    (λ f early late state given. run.state f early late (state ∙ sym value) given) run.outs in
    let state = take row.state.len (c.run.new.state ++ drop (length c.run.new.state) row.state.items) in
    subst (λ (v : View). Steps v inputs (seen (arc_value c.self.inside.layout) state) into) c.self.view_is
    (subst (λ (s : List Bool). Steps (seen (arc_value c.self.inside.layout) row.state.items) inputs (seen (arc_value c.self.inside.layout) s) into) (sym (refilled row.state.len c.run.new.state row.state.items long))
    (subst (λ (l : Layout). Steps (seen l row.state.items) inputs (seen l c.run.new.state) into) c.deref.ensures steps))

pub invariant_of-self : goal.invariant_of-self
invariant_of-self c =
    let l = arc_value c.self.inside.layout in
    let row = c.self.inside.row in
    let held = subst (λ (l : Layout). AreHeld l c.run.new.state c.run.new.bits) c.deref.ensures c.run.ensures.held in
    let state_long = held.state_size ∙ sym c.self.invariant.1.state_size ∙ sym (ap length c.as_mut_slice.ensures.value) ∙ c.as_mut_slice.ensures.len in
    let bits_long = held.size ∙ sym c.self.invariant.1.size ∙ sym (ap length c.as_mut_slice-2.ensures.value) ∙ c.as_mut_slice-2.ensures.len in
    let state = take row.state.len (c.run.new.state ++ drop (length c.run.new.state) row.state.items) in (
      c.self.invariant.0,
      subst (AreHeld l state) (sym (refilled row.bits.len c.run.new.bits row.bits.items bits_long))
          (subst (λ (s : List Bool). AreHeld l s c.run.new.bits) (sym (refilled row.state.len c.run.new.state row.state.items state_long)) held),
    )
