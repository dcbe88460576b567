use Rattle.lid_station.specs.Boards.{drain}
use Rattle.lid_board.specs.Told.{HasStepped, LooksIn}
use Rattle.lid_board.specs.Views.{held}
use Rattle.lid_board.proofs.board.Board.look_in.Given as goal

-- the load is one by the drainer
abbrev pub ghosts-load_as : goal.ghosts-load_as
ghosts-load_as a = record {
  told = λ found v. HasStepped (drain a._station) a.seat.now.me.0.steps v (LooksIn a.cells.now.key.me.0.ends a.seat.now.me.0.ends a._station a._place (held a.seat.now.me.0.ends (drain a._station)) found);
}
