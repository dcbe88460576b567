use Rattle.std.proofs.Common.{◌≡◌, List, Some, OnOk, sym, ◌∙◌, ap, subst}
use Rattle.std.specs.List.{flat_map}
use Rattle.lid_design.specs.declared.Bind.{Bind}
use Rattle.lid_design.specs.Models.{instance_number}
use Rattle.lid_check_drivers.specs.Locals.{NetLocal, output_driver}
use Rattle.lid_check_elab.specs.Parts.{Grows}
use Rattle.lid_check_elab.proofs.Counting.{model_below}
use Rattle.lid_check_elab.proofs.Binding.{sub_reached}
use Rattle.lid_check_elab.proofs.Driving.{inst_outputs, no_number}
use Rattle.lid_check_elab.proofs.driven.push_inst.Goals as goal

pub push_binds-requires-clause-reached : goal.push_binds-requires-clause-reached
push_binds-requires-clause-reached c = sub_reached c.args.judged.now c.args.model c.requires.reached c.args.i c.in-Some.sub (sym c.model_of.ensures ∙ c.in-Some.is)

pub returns-in-Some : goal.returns-in-Some
returns-in-Some c =
    let d = c.args.judged.now in
    let k = c.args.model in
    let number : instance_number d c.args.i k ≡ Some c.in-Some.sub = sym c.model_of.ensures ∙ c.in-Some.is in
    let below = model_below d c.design.ensures.judged c.in-Some.sub (sub_reached d k c.requires.reached c.args.i c.in-Some.sub number) in
    let whole = inst_outputs d k c.args.i c.in-Some.sub c.args.numbered.inst.now c.requires.inst number below c.args.outputs.now c.requires.outputs c.index-outputs-sub.result c.index-outputs-sub.is in
    let binds = ap (λ (bs : List Bind). flat_map (output_driver c.index-outputs-sub.result c.args.i) bs) c.as_slice-binds.ensures in
    subst (λ (ps : List NetLocal). OnOk c.push_binds.result (Grows d k ps c.args.into.now c.push_binds.new.into)) (binds ∙ whole) c.push_binds.ensures

pub returns-in-None : goal.returns-in-None
returns-in-None c = no_number c.args.judged.now c.design.ensures.judged c.args.model c.args.i c.args.numbered.inst.now c.requires.reached c.requires.inst (sym c.model_of.ensures ∙ c.in-None.is)
