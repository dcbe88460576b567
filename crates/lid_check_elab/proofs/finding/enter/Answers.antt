use Rattle.std.proofs.Common.{◌<◌, ◌+◌, length, sym, ◌∙◌, arith}
use Rattle.lid_design.specs.Models.{instance_number, insts_of}
use Rattle.lid_check_drivers.proofs.Shallow.{shallow_of}
use Rattle.lid_check_elab.proofs.Outer.{template_within}
use Rattle.lid_check_elab.proofs.Stacking.{few_insts}
use Rattle.lid_check_elab.proofs.Entering.{not_none, offsets_are, past_nets, in_inst}
use Rattle.lid_check_elab.proofs.finding.enter.Goals as goal

pub bounds-templates-spot : goal.bounds-templates-spot
bounds-templates-spot c = template_within c.args.judged.now c.args.templates.now c.requires.templates c.args.spot.model c.requires.reached

pub last_up_to-place-requires-clause-some : goal.last_up_to-place-requires-clause-some
last_up_to-place-requires-clause-some c = (past_nets c.args.judged.now c.design.ensures.judged c.args.templates.now c.requires.templates c.args.spot.model c.args.spot.number c.requires.reached c.requires.past c.requires.within c.index-templates-spot.result c.as_slice-offsets.result.now c.as_slice-offsets.ensures).some

pub last_up_to-place-requires-clause-first : goal.last_up_to-place-requires-clause-first
last_up_to-place-requires-clause-first c = (past_nets c.args.judged.now c.design.ensures.judged c.args.templates.now c.requires.templates c.args.spot.model c.args.spot.number c.requires.reached c.requires.past c.requires.within c.index-templates-spot.result c.as_slice-offsets.result.now c.as_slice-offsets.ensures).first

pub overflow_cast-inst : goal.overflow_cast-inst
overflow_cast-inst c =
    let few = (offsets_are c.args.judged.now c.args.templates.now c.requires.templates c.args.spot.model c.requires.reached c.index-templates-spot.result c.as_slice-offsets.result.now c.as_slice-offsets.ensures).few in
    let most = few_insts c.args.judged.now c.design.ensures.judged.formed c.args.spot.model in
    let inside = c.last_up_to-place.ensures.inside in
    omega arith

pub returns-clause-number : goal.returns-clause-number
returns-clause-number c =
    let here = (offsets_are c.args.judged.now c.args.templates.now c.requires.templates c.args.spot.model c.requires.reached c.index-templates-spot.result c.as_slice-offsets.result.now c.as_slice-offsets.ensures).each c.last_up_to-place.result c.last_up_to-place.ensures.inside in
    let below = c.last_up_to-place.ensures.below in
    omega arith

pub returns-clause-within : goal.returns-clause-within
returns-clause-within c =
    let k = c.args.spot.model in
    let place = c.last_up_to-place.result in
    let are = offsets_are c.args.judged.now c.args.templates.now c.requires.templates k c.requires.reached c.index-templates-spot.result c.as_slice-offsets.result.now c.as_slice-offsets.ensures in
    let room = in_inst c.args.judged.now k c.args.spot.number place c.in-Some.model (shallow_of c.args.judged.now c.design.ensures.judged k c.requires.reached) c.requires.within (sym c.model_of.ensures ∙ c.in-Some.is)
    (λ h. let inside : place + 1 < length c.as_slice-offsets.result.now = omega (arith, are.few) in let next = are.each (place + 1) inside in let above = c.last_up_to-place.ensures.above inside in omega arith) in
    omega (arith, are.each place c.last_up_to-place.ensures.inside, c.last_up_to-place.ensures.below)

pub unreachable-requires : goal.unreachable-requires
unreachable-requires c =
    let d = c.args.judged.now in
    let k = c.args.spot.model in
    let are = offsets_are d c.args.templates.now c.requires.templates k c.requires.reached c.index-templates-spot.result c.as_slice-offsets.result.now c.as_slice-offsets.ensures in
    let few = are.few in
    let inside = c.last_up_to-place.ensures.inside in
    let within : c.last_up_to-place.result < length (insts_of d k) = omega arith in
    not_none (instance_number d c.last_up_to-place.result k) (c.design.ensures.judged.known k c.last_up_to-place.result c.requires.reached within) (sym c.model_of.ensures ∙ c.in-None.is)
