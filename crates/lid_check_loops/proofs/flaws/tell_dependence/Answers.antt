use Rattle.std.proofs.Common.{◌≡◌, ℕ, List, length, get_or, Some, refl, sym, ◌∙◌, ap}
use Rattle.std.proofs.lemmas.Option.{slice_get_within, slice_get_read}
use Rattle.lid_design.specs.declared.Model.{Model}
use Rattle.lid_check_loops.proofs.Leads.{model_read, tells_dependence}
use Rattle.lid_check_loops.proofs.flaws.tell_dependence.Goals as goal

pub returns : goal.returns
returns c =
    let d = c.args.survey.now in
    let lead = c.args.lead in
    let first = c.requires in
    let m = first.is.m in
    let body = c.index-as_slice-lead.result in
    let name = c.index-as_slice-lead-2.result in
    let here = model_read d c.as_slice.result.now lead.model body c.design.result.now c.design.ensures.same c.as_slice.ensures c.index-as_slice-lead.is (slice_get_within d.models lead.model m first.here) in
    let both : Some body ≡ Some m = sym here ∙ first.here in
    let same : body ≡ m = cc in
    let out = slice_get_read m.outputs (length m.outputs) lead.output name refl (slice_get_within m.outputs lead.output first.is.output first.is.on.out)
    (c.index-as_slice-lead-2.is ∙ ap (λ (xs : List (List ℕ)). get_or xs lead.output name) (c.as_slice-3.ensures ∙ ap (λ (x : Model). x.outputs) same)) in
    tells_dependence d lead first c.in_ok-model.model c.in_ok-output.output c.in_ok-input.input
    (c.in_ok-model.ensures ∙ c.as_slice-2.ensures ∙ ap (λ (x : Model). x.name) same)
    (out ∙ ap Some (sym (c.in_ok-output.ensures ∙ c.as_slice-4.ensures)))
    c.in_ok-input.ensures
