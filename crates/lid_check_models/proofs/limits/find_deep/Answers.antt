use Rattle.std.proofs.Common.{◌∙◌}
use Rattle.lid_base.proofs.Results.{if_ok}
use Rattle.lid_check_models.specs.Limits.{deep_limits}
use Rattle.lid_check_rules.proofs.Faults.{told_later}
use Rattle.lid_check_models.proofs.limits.find_deep.Goals as goal

pub returns-in-None : goal.returns-in-None
unfolding deep_limits
returns-in-None c = if_ok c.find_wide.result (λ told e. e ∙ told_later _ _ _ c.in-None.is c.in_ok-told.ensures) c.find_wide.ensures
