use Rattle.std.proofs.Common.{ap, ◌∙◌, arith}
use Rattle.lid_pearl.specs.Pearls.{View}
use Rattle.lid_system.proofs.Points.{shell_is}
use Rattle.lid_shell_nodes.proofs.Following.{shell_kept}
use Rattle.lid_shell_nodes.proofs.shell.ShellNode.make.Goals as goal

pub wires_of-requires-clause-node : goal.wires_of-requires-clause-node
wires_of-requires-clause-node c = let before = (shell_is c.args.system.now c.requires.system c.args.node c.args.pearl.now c.args.ins.now c.requires.shell).before_sink in omega arith

pub wires_of-requires-clause-read : goal.wires_of-requires-clause-read
wires_of-requires-clause-read c = (shell_is c.args.system.now c.requires.system c.args.node c.args.pearl.now c.args.ins.now c.requires.shell).reads

pub invariant_of-result : goal.invariant_of-result
invariant_of-result c =
    let s = c.args.system.now in
    let v = c.args.node in
    let ins = c.args.ins.now in
    let w = c.in_ok-wires.wires in
    let is = c.in_ok-wires.ensures in
    shell_kept s c.requires.system v c.args.pearl.now ins c.requires.shell c.in_ok-copy.copy.flat w.inputs.taken w.inputs.reads.items w.ports.items c.in_ok-room.room.ins.items c.in_ok-room.room.outs.items
    (ap (λ (p : View). p.flat) c.in_ok-copy.ensures)
    is.taken is.reads is.ports
    c.in_ok-room.ensures.ins
    (c.in_ok-room.ensures.outs ∙ c.outs.ensures)

pub returns : goal.returns
returns c b =
    let s = c.args.system.now in
    let v = c.args.node in
    let ins = c.args.ins.now in
    let is = c.in_ok-wires.ensures in
    record {
      pearl = c.args.pearl.now;
      ins = ins;
      node = c.requires.shell;
      flat = ap (λ (p : View). p.flat) c.in_ok-copy.ensures;
      state = ap (λ (p : View). p.state) c.in_ok-copy.ensures ∙ (shell_is s c.requires.system v c.args.pearl.now ins c.requires.shell).begins;
      many = is.taken;
      reading = is.reads;
      from = is.ports;
    }
