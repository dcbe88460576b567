use Rattle.lid_check_loops.proofs.Numbered.{tells_loop}
use Rattle.lid_check_loops.proofs.flaws.tell_loop.Goals as goal

pub returns : goal.returns
returns c = tells_loop c.args.judged.now c.args.first c.in_ok-path.path c.in_ok-path.name c.requires c.in_ok-path.ensures
