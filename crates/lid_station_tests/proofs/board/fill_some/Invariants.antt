use Rattle.lid_board.specs.Owners.{IsOf}
use Rattle.lid_station_tests.proofs.board.fill_some.Given as goal

abbrev pub invariant-loop-try : goal.invariant-loop-try
invariant-loop-try l = IsOf l.hand l.board
