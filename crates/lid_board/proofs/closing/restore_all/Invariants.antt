use Rattle.std.specs.Mem.Slots.{slots_items}
use Rattle.lid_board.specs.Closing.{Restored}
use Rattle.lid_board.proofs.closing.restore_all.Given as goal

-- the stations below are restored
abbrev pub invariant-loop-station : goal.invariant-loop-station
invariant-loop-station l = Restored (slots_items l.closed.words) l.firsts l.numbers l.fn.pairs l.pairs l.station
