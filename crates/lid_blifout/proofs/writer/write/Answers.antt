use Rattle.lid_blifout.proofs.Law.{read_back}
use Rattle.lid_blifout.proofs.writer.write.Goals as goal

pub returns-clause-read_back : goal.returns-clause-read_back
returns-clause-read_back c = read_back c.args.design.now c.requires
