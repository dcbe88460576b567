use Rattle.lid_board.proofs.Lent.{come_back}
use Rattle.lid_board.proofs.laws.lent_hands_come_back.Goals as goal

pub returns : goal.returns
returns c = come_back
