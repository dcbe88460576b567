use Rattle.lid_walk.specs.Walks.{IsAtRest}
use Rattle.lid_shell_tests.proofs.walks.settles.Given as goal

abbrev pub invariant-loop-sweep : goal.invariant-loop-sweep
invariant-loop-sweep l = IsAtRest l.walk
