use Rattle.std.proofs.Common.{◌≡◌, ℕ, ◌<◌, List, length, get_or, sym, ◌∙◌, ap, subst}
use Rattle.std.proofs.lemmas.Option.{slice_get_within, get_or_from_slice_get}
use Rattle.lid_check_elab.specs.declared.template.Template.{Template}
use Rattle.lid_check_elab.proofs.Outer.{outer_inst}
use Rattle.lid_check_elab.proofs.placing.around_of.Goals as goal

pub bounds-templates-around : goal.bounds-templates-around
bounds-templates-around c =
    let there = c.requires.there in
    let o = outer_inst c.args.judged.now c.args.templates.now c.requires.templates there.0 c.args.scope c.in-Some.around there.1 c.in-Some.is in
    slice_get_within c.args.templates.now c.in-Some.around.model o.t o.here

pub bounds-as_slice-around : goal.bounds-as_slice-around
bounds-as_slice-around c =
    let there = c.requires.there in
    let o = outer_inst c.args.judged.now c.args.templates.now c.requires.templates there.0 c.args.scope c.in-Some.around there.1 c.in-Some.is in
    let same : o.t ≡ c.index-templates-around.result = sym (get_or_from_slice_get c.args.templates.now c.in-Some.around.model o.t c.index-templates-around.result o.here) ∙ sym c.index-templates-around.is in
    subst (λ (rows : List (List ℕ)). c.in-Some.around.inst < length rows) (ap (λ (t : Template). t.actuals) same ∙ sym c.as_slice.ensures) (slice_get_within o.t.actuals c.in-Some.around.inst _ o.actuals)

pub returns-in-Some : goal.returns-in-Some
returns-in-Some c path at =
    let a = c.in-Some.around in
    let o = outer_inst c.args.judged.now c.args.templates.now c.requires.templates path c.args.scope a at c.in-Some.is in
    let same : o.t ≡ c.index-templates-around.result = sym (get_or_from_slice_get c.args.templates.now a.model o.t c.index-templates-around.result o.here) ∙ sym c.index-templates-around.is in
    let rows : c.as_slice.result.now ≡ o.t.actuals = c.as_slice.ensures ∙ ap (λ (t : Template). t.actuals) (sym same) in
    let row = c.index-as_slice-around.result in
    let each = c.as_slice-in-Some.ensures ∙ c.index-as_slice-around.is ∙ ap (λ (rs : List (List ℕ)). get_or rs a.inst row) rows ∙ get_or_from_slice_get o.t.actuals a.inst _ row o.actuals in
    record { up = o.up; i = a.inst; around = a.model; inst = o.inst; is_path = o.is_path; leads = o.leads; at = o.at; is_start = sym o.start; is_actuals = each }
