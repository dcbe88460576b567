use Rattle.lid_vcd.proofs.TextSize.{written_is_read}
use Rattle.lid_vcd.proofs.laws.written_dumps_are_read.Goals as goal

pub returns : goal.returns
returns c = written_is_read
