use Rattle.std.proofs.Common.{◌≡◌, Some, sym, ◌∙◌, ap}
use Rattle.lid_design.specs.declared.Design.{Design}
use Rattle.lid_design.specs.Models.{instance_number}
use Rattle.lid_emit.proofs.Pearled.{inst_count, no_count}
use Rattle.lid_emit.proofs.pearls.count_of_inst.Goals as goal

pub returns-in-Some : goal.returns-in-Some
returns-in-Some c f are =
    let d = c.args.survey.now in
    let root = ap (λ (x : Design). instance_number d c.args.i x.root) c.design.ensures.same in
    let names : instance_number d c.args.i d.root ≡ Some c.in-Some.model = sym root ∙ sym c.model_of.ensures ∙ c.in-Some.is in
    c.count_at.ensures ∙ inst_count d f c.args.counts.now c.args.i c.in-Some.model are names

pub returns-in-None : goal.returns-in-None
returns-in-None c f are =
    let d = c.args.survey.now in
    let root = ap (λ (x : Design). instance_number d c.args.i x.root) c.design.ensures.same in
    no_count d f c.args.i (sym root ∙ sym c.model_of.ensures ∙ c.in-None.is)
