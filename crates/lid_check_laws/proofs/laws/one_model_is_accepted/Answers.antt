use Rattle.lid_check_laws.proofs.Alone.{no_loop, no_dependence}
use Rattle.lid_check_laws.proofs.Lone.{lone_passes}
use Rattle.lid_check_laws.proofs.laws.one_model_is_accepted.Goals as goal

pub returns-clause-models : goal.returns-clause-models
returns-clause-models c = lone_passes

pub returns-clause-loops : goal.returns-clause-loops
returns-clause-loops c d m heights here alone rising = no_loop d m here alone heights rising

pub returns-clause-outputs : goal.returns-clause-outputs
returns-clause-outputs c d m late here alone parted = no_dependence d m here alone late parted

pub returns-clause-accepted : goal.returns-clause-accepted
returns-clause-accepted c d m heights late here pearl rising parted cells nets = record {
  models = lone_passes d m here pearl cells nets;
  loops = no_loop d m here pearl.insts heights rising;
  outputs = no_dependence d m here pearl.insts late parted;
}
