use Rattle.std.proofs.Common.{inr}
use Rattle.lid_check_models.proofs.Passing.{after_told}
use Rattle.lid_check_models.proofs.models.judge_ports.Goals as goal

pub returns-in-Ok-Some-clause-err : goal.returns-in-Ok-Some-clause-err
returns-in-Ok-Some-clause-err c = inr (after_told c.args.ports.now c.in-Ok-Some.field-0 c.in-Ok-Some.told c.requires.early c.requires.flat c.in-Ok-Some.ensures c.in-Ok-Some.field-0-is)
