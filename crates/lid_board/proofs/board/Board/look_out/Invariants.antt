use Rattle.lid_station.specs.Boards.{fill}
use Rattle.lid_board.specs.Told.{HasStepped, LooksOut}
use Rattle.lid_board.specs.Views.{held}
use Rattle.lid_board.proofs.board.Board.look_out.Given as goal

-- the load is one by the filler
abbrev pub ghosts-load_as : goal.ghosts-load_as
ghosts-load_as a = record {
  told = λ found v. HasStepped (fill a._station) a.seat.now.me.0.steps v (LooksOut a.cells.now.key.me.0.ends a.seat.now.me.0.ends a._station a._place (held a.seat.now.me.0.ends (fill a._station)) found);
}
