use Rattle.lid_size.specs.Choices.{followed}
use Rattle.lid_size.proofs.Lengthening.{way_lowered, followed_less}
use Rattle.lid_size.proofs.ways.closed.Goals as goal

pub loop-k-init : goal.loop-k-init
loop-k-init c =
    way_lowered c.args.graph.now c.args.count (followed c.args.count c.args.done.now c.args.next) (followed c.args.count c.args.done.now 16) c.walk_start-at.result _
    (followed_less c.args.count c.args.done.now c.args.next c.requires.few c.requires.range c.requires.next)
    (c.requires.ways.each c.walk_start-at.result c.if-at-ways.false)
