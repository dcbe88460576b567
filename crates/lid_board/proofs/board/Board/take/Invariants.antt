use Rattle.lid_station.specs.Boards.{drain}
use Rattle.lid_board.specs.Told.{HasStepped, TakesToken}
use Rattle.lid_board.specs.Views.{held}
use Rattle.lid_board.proofs.board.Board.take.Given as goal

-- the step takes the next token
abbrev pub ghosts-and_as : goal.ghosts-and_as
ghosts-and_as a = record {
  told = λ found v. HasStepped (drain a._station) a.seat.now.me.0.steps v (TakesToken a.cells.now.key.me.0.ends a.seat.now.me.0.ends a._station a._place (held a.seat.now.me.0.ends (drain a._station)) found);
}
