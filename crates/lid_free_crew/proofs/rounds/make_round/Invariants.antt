use Rattle.lid_board.specs.Owners.{IsOf}
use Rattle.lid_free_crew.specs.Posts.{known}
use Rattle.lid_free_crew.specs.Order.{stage, TurnsMade}
use Rattle.lid_free_crew.proofs.Circling.{IsPartway}
use Rattle.lid_free_crew.proofs.rounds.make_round.Given as goal

abbrev pub invariant-loop-at : goal.invariant-loop-at
invariant-loop-at l = record {
  of : IsOf l.hand l.board;
  partway : IsPartway l.board l.at (known l.fn.hand) l.fn.actors l.fn.tally (known l.hand) l.actors l.tally;
  in_order : TurnsMade l.board l.at (stage l.fn.hand l.fn.actors l.fn.tally) (stage l.hand l.actors l.tally);
}
