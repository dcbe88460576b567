use Rattle.std.proofs.Common.{sym, ◌∙◌, ap, subst}
use Rattle.lid_design.specs.Models.{AreReached}
use Rattle.lid_check_hierarchy.specs.Graphs.{places_of_true}
use Rattle.lid_check_hierarchy.proofs.Numbers.{list_reached}
use Rattle.lid_check_hierarchy.proofs.uses.find_models.Goals as goal

pub returns-clause-numbers : goal.returns-clause-numbers
returns-clause-numbers c =
    subst (AreReached c.args.design.now) (sym (c.in_ok-numbers.ensures ∙ ap (places_of_true 0) c.as_slice.ensures)) (list_reached c.args.design.now c.in_ok-marks.marks c.in_ok-marks.ensures.exact)
