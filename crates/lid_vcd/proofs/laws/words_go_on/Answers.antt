use Rattle.lid_vcd.proofs.Alive.{words_go_on}
use Rattle.lid_vcd.proofs.laws.words_go_on.Goals as goal

pub returns : goal.returns
returns c = words_go_on
