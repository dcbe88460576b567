use Rattle.std.proofs.Common.{◌≡◌, ℕ, List, Some, map, sym, ◌∙◌, ap}
use Rattle.std.proofs.lemmas.Result.{IfOk-weaker}
use Rattle.lid_design.specs.Models.{instance_number}
use Rattle.lid_check_drivers.specs.Locals.{actual_for}
use Rattle.lid_check_elab.specs.Templates.{net_place}
use Rattle.lid_check_elab.proofs.Binding.{sub_reached, bound_in, formals_once}
use Rattle.lid_check_elab.proofs.Driving.{model_here}
use Rattle.lid_check_elab.proofs.bound.find_bound.Goals as goal

pub data_inputs-requires : goal.data_inputs-requires
data_inputs-requires c = sub_reached c.args.judged.now c.args.model c.requires.reached c.args.i c.in-Some.sub (sym c.model_of.ensures ∙ c.in-Some.is)

pub find_places-requires-clause-once : goal.find_places-requires-clause-once
find_places-requires-clause-once c =
    let d = c.args.judged.now in
    let judged = c.design.ensures.judged in
    let m = model_here d judged c.args.model c.requires.reached in
    formals_once d judged c.args.model c.requires.reached m.0 m.1 c.args.i c.args.numbered.inst.now c.requires.inst

pub returns-in-Some : goal.returns-in-Some
returns-in-Some c =
    let d = c.args.judged.now in
    let k = c.args.model in
    let number : instance_number d c.args.i k ≡ Some c.in-Some.sub = sym c.model_of.ensures ∙ c.in-Some.is in
    IfOk-weaker c.find_places.result _ _
    (λ places same.
    same
    ∙ ap (λ (ns : List (List ℕ)). map (λ formal. net_place d k (actual_for c.args.numbered.inst.now formal)) ns) c.data_inputs.ensures
    ∙ sym (bound_in d k c.args.i c.in-Some.sub c.args.numbered.inst.now c.requires.inst number))
    c.find_places.ensures
