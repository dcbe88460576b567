-- The sink drains the stations of its channels, and fills none.
use Rattle.std.proofs.Common.{◌-◌, length, sym, subst}
use Rattle.lid_system.specs.declared.System.{System}
use Rattle.lid_shell_nodes.specs.Wiring.{IsSinkOf}
use Rattle.lid_shell.specs.Starts.{IsNewGiven}
use Rattle.lid_shell.proofs.Begun.{new_sink, new_rows}
use Rattle.lid_shell.proofs.actor.Actor.sink.Goals as goal

pub returns : goal.returns
returns c = λ m setup of many ins.
    let wide = c.width.ensures in
    new_sink c.actors_go_by_rules.ensures m c.args.ins.now c.args.rows c.in_ok-desk.desk _ setup many ins c.in_ok-desk.ensures (
      subst (λ (s : System). IsSinkOf s (length s.nodes - 1) c.in_ok-node.node) (sym of) c.in_ok-node.ensures,
      new_rows m c.in_ok-node.node c.width.result c.args.rows c.in_ok-given.given many wide (subst (λ (s : System). IsNewGiven s c.width.result c.args.rows c.in_ok-given.given) (sym of) c.in_ok-given.ensures),
    )
