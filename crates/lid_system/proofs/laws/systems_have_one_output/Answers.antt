use Rattle.lid_system.proofs.Streaming.{some_output, same_outputs, output_long}
use Rattle.lid_system.proofs.laws.systems_have_one_output.Goals as goal

pub returns-clause-some : goal.returns-clause-some
returns-clause-some c s rows well = some_output s well rows

pub returns-clause-one : goal.returns-clause-one
returns-clause-one c = same_outputs

pub returns-clause-long : goal.returns-clause-long
returns-clause-long c = output_long
