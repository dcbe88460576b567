use Rattle.lid_shell_tests.specs.Runs.{HasActors}
use Rattle.lid_shell_tests.proofs.walks.steps_so.Given as goal

abbrev pub invariant-loop-actor : goal.invariant-loop-actor
invariant-loop-actor l = HasActors l.walk l.many
