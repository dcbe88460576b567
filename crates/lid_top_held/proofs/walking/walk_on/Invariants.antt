use Rattle.std.proofs.Common.{◌≡◌, ◌++◌, take}
use Rattle.lid_walk_machine.specs.Setups.{plan}
use Rattle.lid_shell_laws.specs.Setups.{Setup}
use Rattle.lid_walk_machine.specs.Machine.{State, answers, after_all}
use Rattle.lid_top_script.specs.Walked.{answer_lines}
use Rattle.lid_walk.specs.Walks.{Walks}
use Rattle.lid_top_held.proofs.walking.walk_on.Given as goal

abbrev pub invariant-loop-actor : goal.invariant-loop-actor
invariant-loop-actor l = record {
  walks : (m : Setup) (st : State) → Walks m st l.fn.walk → Walks m (after_all (plan m) st (take l.actor-index l.schedule)) l.walk;
  lines : (m : Setup) (st : State) → Walks m st l.fn.walk → l.into.items ≡ l.fn.into.items ++ answer_lines (take l.actor-index l.schedule) (answers (plan m) st (take l.actor-index l.schedule));
}
