use Rattle.std.proofs.Common.{sym, ◌∙◌}
use Rattle.lid_base.proofs.Results.{if_ok}
use Rattle.lid_check_rules.proofs.Faults.{told_first, told_later}
use Rattle.lid_check_models.proofs.Limiting.{limits_are}
use Rattle.lid_check_models.proofs.limits.find_limit.Goals as goal

pub returns-in-Some : goal.returns-in-Some
returns-in-Some c = told_first _ _ _ _ c.in-Some.is c.find_root_insts.ensures ∙ sym (limits_are c.args.survey.now)

pub returns-in-None : goal.returns-in-None
returns-in-None c = if_ok c.find_deep.result (λ told e. e ∙ told_later _ _ _ c.in-None.is c.find_root_insts.ensures ∙ sym (limits_are c.args.survey.now)) c.find_deep.ensures
