use Rattle.std.proofs.Common.{ℕ, List, length, ap, subst, arith}
use Rattle.std.proofs.lemmas.List.{length-map}
use Rattle.lid_check_drivers.specs.Locals.{model_locals}
use Rattle.lid_check_elab.specs.Templates.{name_at}
use Rattle.lid_check_elab.specs.Parts.{driven_net, ArePlaces}
use Rattle.lid_check_elab.proofs.Binding.{nets_picked}
use Rattle.lid_check_elab.proofs.Driving.{model_here}
use Rattle.lid_check_elab.proofs.Few.{few_locals}
use Rattle.lid_check_elab.proofs.template.describe_nets.Goals as goal

pub picks_of-requires-clause-few : goal.picks_of-requires-clause-few
picks_of-requires-clause-few c =
    let d = c.args.judged.now in
    let k = c.args.model in
    let few = few_locals d c.design.ensures.judged k c.requires.reached in
    omega (arith, ap length c.in_ok-driven.ensures.nets, length-map c.in_ok-driven.driven.nets.items (name_at d k), length-map (model_locals d k) driven_net, ap length c.as_slice.ensures.value)

pub returns : goal.returns
returns c =
    let d = c.args.judged.now in
    let k = c.args.model in
    let m = model_here d c.design.ensures.judged k c.requires.reached in
    nets_picked d c.design.ensures.judged k c.requires.reached m.0 m.1 c.from_vec.result c.in_ok-picks.picks c.in_ok-driven.driven c.in_ok-driven.ensures c.from_vec.ensures
    (subst (λ (ns : List ℕ). ArePlaces d k ns c.in_ok-picks.picks) c.as_slice.ensures.value c.in_ok-picks.ensures)
