-- A shell drains and fills the stations of its channels.
use Rattle.std.proofs.Common.{◌+◌, ◌<◌, length, sym, subst}
use Rattle.lid_base.proofs.Results.{if_ok}
use Rattle.lid_system.specs.declared.System.{System}
use Rattle.lid_shell_nodes.specs.Wiring.{IsShellOf}
use Rattle.lid_shell.proofs.actor.Actor.shell.Goals as goal

pub returns : goal.returns
returns c =
    if_ok c.shell_with.result
    (λ a new m setup of many ins outs.
    let before : c.args.node + 1 < length m.system.nodes = subst (λ (s : System). c.args.node + 1 < length s.nodes) (sym of) c.requires.shell.1 in
    new m c.args.node setup c.requires.shell.0 before (subst (λ (s : System). IsShellOf s m.table c.args.node 0 c.in_ok-part.part) (sym of) (c.in_ok-part.ensures m.table)) many ins outs)
    c.shell_with.ensures
