-- A shell drains and fills the stations of its channels.
use Rattle.lid_shell.proofs.Begun.{new_shell}
use Rattle.lid_shell.proofs.actor.Actor.shell_with.Goals as goal

pub returns : goal.returns
returns c = λ m v setup after before shell many ins outs.
    new_shell m v c.args.ins.now c.args.outs.now c.args.rows c.saturating_sub.result c.in_ok-desk.desk c.args.part _ setup before many ins outs c.saturating_sub.ensures c.in_ok-desk.ensures (after, before, shell)
