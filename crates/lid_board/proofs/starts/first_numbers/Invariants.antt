use Rattle.lid_board.specs.Starts.{AreNumbers}
use Rattle.lid_board.proofs.starts.first_numbers.Given as goal

abbrev pub invariant-loop-station : goal.invariant-loop-station
invariant-loop-station l = AreNumbers l.firsts l.numbers.items l._station
