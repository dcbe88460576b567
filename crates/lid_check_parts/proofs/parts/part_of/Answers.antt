use Rattle.std.proofs.Common.{◌≡◌, ◌<◌, List, length, sym, ◌∙◌, ap, subst, arith}
use Rattle.lid_design.specs.declared.Design.{Design}
use Rattle.lid_design.specs.declared.Model.{Model}
use Rattle.lid_check_hierarchy.proofs.Walks.{reached_below}
use Rattle.lid_check_parts.proofs.Finding.{outputs_read}
use Rattle.lid_check_parts.proofs.parts.part_of.Goals as goal

pub bounds-as_slice-model : goal.bounds-as_slice-model
bounds-as_slice-model c =
    let models : c.as_slice.result.now ≡ c.args.judged.now.models = c.as_slice.ensures ∙ ap (λ (d : Design). d.models) c.design.ensures.same in
    subst (λ (ms : List Model). c.args.model < length ms) (sym models) (reached_below c.args.judged.now c.design.ensures.judged.formed c.args.model c.requires.reached)

pub overflow_cast-result-2 : goal.overflow_cast-result-2
overflow_cast-result-2 c =
    let d = c.args.judged.now in
    let models : c.as_slice.result.now ≡ d.models = c.as_slice.ensures ∙ ap (λ (d : Design). d.models) c.design.ensures.same in
    let outs = outputs_read d c.as_slice.result.now c.args.model c.index-as_slice-model.result models (reached_below d c.design.ensures.judged.formed c.args.model c.requires.reached) c.index-as_slice-model.is in
    let long = ap length outs in
    let e = c.len.ensures in
    let few = c.requires.few in
    omega arith

pub returns-clause-outputs : goal.returns-clause-outputs
returns-clause-outputs c =
    let d = c.args.judged.now in
    let models : c.as_slice.result.now ≡ d.models = c.as_slice.ensures ∙ ap (λ (d : Design). d.models) c.design.ensures.same in
    let outs = outputs_read d c.as_slice.result.now c.args.model c.index-as_slice-model.result models (reached_below d c.design.ensures.judged.formed c.args.model c.requires.reached) c.index-as_slice-model.is in
    c.len.ensures ∙ sym (ap length outs)
