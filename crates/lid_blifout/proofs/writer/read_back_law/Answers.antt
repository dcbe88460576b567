use Rattle.lid_blifout.proofs.Law.{read_back}
use Rattle.lid_blifout.proofs.writer.read_back_law.Goals as goal

pub returns : goal.returns
returns c = λ d w. read_back d w
