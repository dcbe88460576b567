use Rattle.std.proofs.Common.{◌∙◌}
use Rattle.lid_check_hierarchy.proofs.survey.Survey.is_clock.Goals as goal

pub returns : goal.returns
returns c = c.has.ensures ∙ c.clocks_of.ensures c.args.name.now
