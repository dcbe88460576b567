use Rattle.lid_free_crew.specs.Rounds.{AreDone}
use Rattle.lid_free_crew.proofs.rounds.done_first.Given as goal

abbrev pub invariant-loop-place : goal.invariant-loop-place
invariant-loop-place l = AreDone l.place l.actors
