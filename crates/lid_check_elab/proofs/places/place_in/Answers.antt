use Rattle.std.proofs.Common.{sym, ◌∙◌, arith}
use Rattle.std.specs.Str.{bytes_eq}
use Rattle.lid_design.specs.Elaboration.{model_nets}
use Rattle.lid_check_names.proofs.Numbers.{position_below}
use Rattle.lid_check_elab.proofs.Counting.{nets_small}
use Rattle.lid_check_elab.proofs.Binding.{position_past}
use Rattle.lid_check_elab.proofs.places.place_in.Goals as goal

pub overflow_cast-result : goal.overflow_cast-result
overflow_cast-result c =
    let few = nets_small c.args.judged.now c.design.ensures.judged c.args.model c.requires in
    let below = position_below (bytes_eq c.args.net.now) (model_nets c.args.judged.now c.args.model) c.in-Some.place (sym c.place_of.ensures ∙ c.in-Some.is) in
    omega arith

pub returns-in-None : goal.returns-in-None
returns-in-None c = c.count_nets.ensures ∙ position_past (bytes_eq c.args.net.now) (model_nets c.args.judged.now c.args.model) (sym c.place_of.ensures ∙ c.in-None.is)
