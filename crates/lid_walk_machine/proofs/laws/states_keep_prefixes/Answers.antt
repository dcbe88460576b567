use Rattle.lid_walk_machine.proofs.Sound.{sound_begun, sound_after}
use Rattle.lid_walk_machine.proofs.laws.states_keep_prefixes.Goals as goal

pub returns : goal.returns
returns c = record {
  begin = λ x rules. sound_begun x rules;
  steps = λ x st v rules there sound. sound_after x rules st v there sound;
}
