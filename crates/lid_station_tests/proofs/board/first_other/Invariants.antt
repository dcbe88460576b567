use Rattle.std.proofs.Common.{ℕ}
use Rattle.lid_board.specs.Owners.{IsOf, IsOwned, ends_of}
use Rattle.lid_station_tests.proofs.board.first_other.Given as goal

abbrev pub invariant-loop-number : goal.invariant-loop-number
invariant-loop-number l = IsOf l.hand l.board × ((end : ℕ) → IsOwned (ends_of l.fn.hand) end → IsOwned (ends_of l.hand) end)
