use Rattle.lid_board.specs.Starts.{HasLaidWords}
use Rattle.lid_board.proofs.starts.lay_station.Given as goal

abbrev pub invariant-loop-number : goal.invariant-loop-number
invariant-loop-number l = HasLaidWords l.fn.words.items l.word l._number l.words.items
