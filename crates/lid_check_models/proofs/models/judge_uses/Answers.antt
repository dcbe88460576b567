use Rattle.lid_check_models.proofs.Passing.{known_early}
use Rattle.lid_check_models.proofs.models.judge_uses.Goals as goal

pub survey_models-requires : goal.survey_models-requires
survey_models-requires c = known_early c.args.uses c.requires
