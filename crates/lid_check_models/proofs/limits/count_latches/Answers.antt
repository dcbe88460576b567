use Rattle.std.proofs.Common.{◌∙◌}
use Rattle.lid_check_models.proofs.Limiting.{latches_are, defaulted_are}
use Rattle.lid_check_models.proofs.limits.count_latches.Goals as goal

pub returns : goal.returns
returns c = (c.in_ok-all.ensures ∙ latches_are c.args.survey.now c.requires, c.in_ok-defaulted.ensures ∙ defaulted_are c.args.survey.now c.requires)
