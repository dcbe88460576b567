use Rattle.lid_board.specs.Parting.{is_chosen}
use Rattle.lid_board.proofs.board.Board.split.Given as goal

-- the ends that were asked for
abbrev pub ghosts-split_as : goal.ghosts-split_as
ghosts-split_as a = record { chosen = is_chosen a._ends.now }
