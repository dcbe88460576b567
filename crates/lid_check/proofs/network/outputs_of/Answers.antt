use Rattle.std.proofs.Common.{sym, ◌∙◌, ap}
use Rattle.lid_design.specs.declared.Model.{Model}
use Rattle.lid_check.proofs.Placing.{outputs_are}
use Rattle.lid_check.proofs.network.outputs_of.Goals as goal

pub returns : goal.returns
returns c =
    let d = c.args.judged.now in
    c.as_slice-2.ensures ∙ ap (λ (m : Model). m.outputs) (sym c.index-as_slice-design.is) ∙ sym (outputs_are d c.design-design.result.now c.as_slice.result.now c.index-as_slice-design.result c.design-design.ensures.judged.formed c.design-design.ensures.same c.as_slice.ensures c.index-as_slice-design.is)
