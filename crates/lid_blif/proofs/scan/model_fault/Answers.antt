use Rattle.std.proofs.Common.{arith}
use Rattle.std.proofs.lemmas.Grind.{common_steps}
use Rattle.lid_blif.proofs.scan.model_fault.Goals as goal

pub returns-then-is_known : goal.returns-then-is_known
returns-then-is_known c = λ earlier h. let known = c.is_known.ensures earlier h in grind (arith, common_steps)

pub returns-then-models-gt-MOST_MODELS : goal.returns-then-models-gt-MOST_MODELS
returns-then-models-gt-MOST_MODELS c = λ earlier h. let known = c.is_known.ensures earlier h in grind (arith, common_steps)

pub returns-else-models-gt-MOST_MODELS : goal.returns-else-models-gt-MOST_MODELS
returns-else-models-gt-MOST_MODELS c = λ earlier h. let known = c.is_known.ensures earlier h in grind (arith, common_steps)
