use Rattle.std.proofs.Common.{◌<◌, List, length, get_or, refl, sym, ◌∙◌, ap, subst}
use Rattle.std.proofs.lemmas.Option.{slice_get_read}
use Rattle.lid_design.specs.declared.Design.{Design}
use Rattle.lid_design.specs.declared.Model.{Model}
use Rattle.lid_check_elab.proofs.Counting.{model_below}
use Rattle.lid_check_elab.proofs.places.model_at.Goals as goal

pub bounds-as_slice-model : goal.bounds-as_slice-model
bounds-as_slice-model c =
    let below = model_below c.args.judged.now c.design.ensures.judged c.args.model c.requires in
    subst (λ (ms : List Model). c.args.model < length ms) (sym (c.as_slice.ensures ∙ ap (λ (d : Design). d.models) c.design.ensures.same)) below

pub returns : goal.returns
returns c =
    let d = c.args.judged.now in
    let below = model_below d c.design.ensures.judged c.args.model c.requires in
    slice_get_read d.models (length d.models) c.args.model c.index-as_slice-model.result refl below (c.index-as_slice-model.is ∙ ap (λ (ms : List Model). get_or ms c.args.model c.index-as_slice-model.result) (c.as_slice.ensures ∙ ap (λ (d : Design). d.models) c.design.ensures.same))
