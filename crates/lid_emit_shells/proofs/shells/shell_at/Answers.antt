use Rattle.std.proofs.Common.{◌-◌, sym, arith}
use Rattle.lid_emit_shells.proofs.Wiring.{width_at, below_at}
use Rattle.lid_emit_shells.proofs.shells.shell_at.Goals as goal

pub make_shell-requires-clause-width : goal.make_shell-requires-clause-width
make_shell-requires-clause-width c =
    width_at c.args.checked.now c.args.system.now c.requires.of c.requires.system c.args.v c.pearl_at.result.0.now c.pearl_at.result.1.now c.pearl_at.ensures (c.args.v - 1)
    (let low = c.requires.shell.0 in omega arith) c.in_ok-flat.flat c.in_ok-flat.ensures.part

pub make_shell-requires-clause-below : goal.make_shell-requires-clause-below
make_shell-requires-clause-below c = below_at c.args.system.now c.requires.system c.args.v c.pearl_at.result.0.now c.pearl_at.result.1.now c.pearl_at.ensures _ (sym c.requires.lasts)
