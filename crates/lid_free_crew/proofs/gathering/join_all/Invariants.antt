use Rattle.std.specs.Prelude.{◌≡◌, length, vec_len}
use Rattle.lid_board.specs.Owners.{IsOf}
use Rattle.lid_free_crew.proofs.Joining.{AreJoinedFrom}
use Rattle.lid_free_crew.proofs.gathering.join_all.Given as goal

abbrev pub invariant-loop-worker : goal.invariant-loop-worker
invariant-loop-worker l = record {
  of : IsOf l.keeper l.board;
  joined : AreJoinedFrom l.fn.crew.items l.crew.items l.keeper l.tallies;
}

abbrev pub decreases-loop-worker : goal.decreases-loop-worker
decreases-loop-worker l = length l.crew.items
