use Rattle.lid_blifout.proofs.WritableLaw.{read_writable}
use Rattle.lid_blifout.proofs.writer.writable_law.Goals as goal

pub returns : goal.returns
returns c = λ bytes h plain short. read_writable bytes h plain short
