use Rattle.std.proofs.Common.{◌∙◌}
use Rattle.lid_base.proofs.Results.{if_ok}
use Rattle.lid_check_models.specs.Limits.{wide_limits}
use Rattle.lid_check_rules.proofs.Faults.{told_first, told_later}
use Rattle.lid_check_models.proofs.limits.find_wide.Goals as goal

pub returns-in-Some : goal.returns-in-Some
unfolding wide_limits
returns-in-Some c = told_first _ _ _ _ c.in-Some.is c.in_ok-told.ensures

pub returns-in-None : goal.returns-in-None
unfolding wide_limits
returns-in-None c = if_ok c.find_total-in-None.result (λ told e. e ∙ told_later _ _ _ c.in-None.is c.in_ok-told.ensures) c.find_total-in-None.ensures
