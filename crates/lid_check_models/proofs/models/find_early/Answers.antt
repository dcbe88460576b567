use Rattle.lid_check_models.proofs.Judging.{tells_first, tells_rest}
use Rattle.lid_check_models.proofs.models.find_early.Goals as goal

pub returns-in-Some : goal.returns-in-Some
returns-in-Some c = tells_first c.args.uses.now c.design.result.now c.reached-reached.result.now _ c.in-Some.told c.reached-reached.ensures c.design.ensures.same c.in_ok-told.ensures c.in-Some.is

pub returns-in-None : goal.returns-in-None
returns-in-None c = tells_rest c.args.uses.now c.design.result.now c.reached-reached.result.now _ _ c.reached-reached.ensures c.design.ensures.same c.in_ok-told.ensures c.in-None.is c.find_unknown_model.ensures
