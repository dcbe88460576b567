use Rattle.std.proofs.Common.{Bool, List, map, ◌∙◌, ap, subst}
use Rattle.std.specs.Arc.{arc_value}
use Rattle.lid_strict_engine.specs.Rows.{bit_at}
use Rattle.lid_strict_engine.proofs.Settling.{agrees_all}
use Rattle.lid_pearl.specs.Pearls.{View, Shows}
use Rattle.lid_pearl.specs.declared.pearl.Layout.{Layout}
use Rattle.lid_pearl.specs.Inside.{early_nets}
use Rattle.lid_pearl.proofs.Stepping.{shows_of}
use Rattle.lid_pearl.proofs.pearl.Pearl.outputs.Goals as goal

pub returns : goal.returns
returns c =
    let laid = c.self.invariant.0 in
    let l = arc_value c.self.inside.layout in
    let bits = c.self.inside.row.bits.items in
    let outs = l.shape.outs.items in
    let written = c.take_bits.ensures ∙ ap (λ (bs : List Bool). map (bit_at bs) c.as_slice.result.now) c.as_slice-bits.ensures.value ∙ ap (map (bit_at bits)) (c.as_slice.ensures.value ∙ ap (λ (l : Layout). l.shape.outs.items) c.deref.ensures) in
    subst (λ (v : View). Shows v c.take_bits.new.into) c.self.view_is
    (shows_of l.shape.nets l.shape.ins.items outs l.shape.latches.all.items l.plan.early.program l.plan.late.program c.self.inside.row.state.items c.take_bits.new.into
    (λ f early state. written ∙ agrees_all f (early_nets l.shape.latches.all.items l.plan.early.program) bits outs (c.self.invariant.1.settled f early state) laid.ordered.outs_early))
