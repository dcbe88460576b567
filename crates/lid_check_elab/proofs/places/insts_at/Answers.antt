use Rattle.std.proofs.Common.{◌≡◌, ◌<◌, ◌^◌, List, [], Option, length, sym, ◌∙◌, ap, subst}
use Rattle.std.specs.Option.{option_map_or}
use Rattle.lid_design.specs.declared.Model.{Model}
use Rattle.lid_design.specs.declared.Inst.{Inst}
use Rattle.lid_design.specs.Models.{insts_of}
use Rattle.lid_check_elab.proofs.Stacking.{few_insts}
use Rattle.lid_check_elab.proofs.places.insts_at.Goals as goal

pub returns-clause-same : goal.returns-clause-same
returns-clause-same c = c.as_slice.ensures ∙ sym (ap (λ (o : Option Model). option_map_or (λ m. m.insts) o []) c.model_at.ensures)

pub returns-clause-few : goal.returns-clause-few
returns-clause-few c =
    let same : c.as_slice.result.now ≡ insts_of c.args.judged.now c.args.model = c.as_slice.ensures ∙ sym (ap (λ (o : Option Model). option_map_or (λ m. m.insts) o []) c.model_at.ensures) in
    subst (λ (is : List Inst). length is < 2 ^ 32) (sym same) (few_insts c.args.judged.now c.design.ensures.judged.formed c.args.model)
