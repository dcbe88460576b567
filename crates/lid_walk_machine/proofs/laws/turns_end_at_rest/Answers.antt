use Rattle.lid_walk_machine.proofs.Turns.{has_turned}
use Rattle.lid_walk_machine.proofs.Sweeps.{has_swept}
use Rattle.lid_walk_machine.proofs.laws.turns_end_at_rest.Goals as goal

pub returns : goal.returns
returns c = record {
  turns = λ x st v rules there sound rests. has_turned x rules v there st sound;
  sweeps = λ x st rules sound rest. has_swept x rules st sound rest;
}
