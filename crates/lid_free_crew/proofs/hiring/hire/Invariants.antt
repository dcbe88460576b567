use Rattle.lid_board.specs.Owners.{IsOf, start_ends}
use Rattle.lid_free_crew.specs.Crews.{HasGivenEnds, AreHired}
use Rattle.lid_free_crew.proofs.hiring.hire.Given as goal

abbrev pub invariant-loop-number : goal.invariant-loop-number
invariant-loop-number l = record {
  of : IsOf l.keeper l.board;
  given : HasGivenEnds l.workers l.owners (start_ends l.board) l.number l.keeper;
  hired : AreHired l.board l.workers l.owners (start_ends l.board) l.number l.crew.items;
}
