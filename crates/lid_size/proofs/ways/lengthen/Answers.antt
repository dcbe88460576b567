use Rattle.lid_size.specs.Choices.{followed}
use Rattle.lid_size.proofs.ways.lengthen.Goals as goal

pub loop-k-init : goal.loop-k-init
loop-k-init c = c.begin.ensures c.args.graph.now c.args.count (followed c.args.count c.args.done.now 16) c.requires.ways
