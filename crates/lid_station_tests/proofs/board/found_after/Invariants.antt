use Rattle.lid_board.specs.Owners.{IsOf}
use Rattle.lid_station_tests.proofs.board.found_after.Given as goal

abbrev pub invariant-loop-round : goal.invariant-loop-round
invariant-loop-round l = IsOf l.hand l.board
