use Rattle.lid_check_laws.proofs.Assembled.{root_passes}
use Rattle.lid_check_laws.proofs.Graph.{none_loops, none_depends}
use Rattle.lid_check_laws.proofs.laws.roots_with_instances_are_accepted.Goals as goal

pub returns-clause-models : goal.returns-clause-models
returns-clause-models c d m formed root plain parted cells nets = root_passes d formed m root plain parted cells nets

pub returns-clause-accepted : goal.returns-clause-accepted
returns-clause-accepted c d m heights late formed root plain rises graph cells nets = record {
  models = root_passes d formed m root plain (λ inst sub among bound. let part = (graph inst sub among bound).1 in λ name output input. part.outputs name output (part.inputs name input)) cells nets;
  loops = none_loops d formed m root plain heights late rises graph;
  outputs = none_depends d formed m root plain heights late rises graph;
}
