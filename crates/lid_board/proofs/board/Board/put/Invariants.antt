use Rattle.lid_station.specs.Boards.{fill}
use Rattle.lid_board.specs.Told.{HasStepped, Puts}
use Rattle.lid_board.specs.Views.{held}
use Rattle.lid_board.proofs.board.Board.put.Given as goal

-- the step puts the next token
abbrev pub ghosts-or_as : goal.ghosts-or_as
ghosts-or_as a = record {
  told = λ found v. HasStepped (fill a._station) a.seat.now.me.0.steps v (Puts a.cells.now.key.me.0.ends a.seat.now.me.0.ends a._station (held a.seat.now.me.0.ends (fill a._station)));
}
