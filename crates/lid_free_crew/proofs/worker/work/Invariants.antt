use Rattle.std.specs.Prelude.{◌≤◌, length}
use Rattle.lid_free_crew.specs.Rounds.{AreDone}
use Rattle.lid_free_crew.proofs.Worked.{IsAt}
use Rattle.lid_free_crew.proofs.worker.work.Given as goal

abbrev pub invariant-loop-round : goal.invariant-loop-round
invariant-loop-round g l = record {
  at : IsAt l.board l.round l.fn.worker l.worker;
  within : l.done ≤ length l.worker.actors.items;
  done : AreDone l.done l.worker.actors.items;
}
