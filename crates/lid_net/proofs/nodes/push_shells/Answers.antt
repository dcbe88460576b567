use Rattle.std.proofs.Common.{[], ◌∷◌, ◌++◌, ◌∙◌, ap}
use Rattle.lid_system.specs.declared.Node.{Node}
use Rattle.lid_net.proofs.Wired.{read_shell, shells_first, shells_more, shells_all}
use Rattle.std.proofs.lemmas.List.{take_all}
use Rattle.lid_net.proofs.nodes.push_shells.Goals as goal

pub shell_of-requires-clause-led : goal.shell_of-requires-clause-led
shell_of-requires-clause-led c = read_shell c.args.wiring.now c.args.ports.now c.index-ports-i.result c.loop-i.i c.requires.led c.loop-i-test.true c.index-ports-i.is

pub loop-i-init : goal.loop-i-init
loop-i-init c = shells_first c.args.checked.now c.args.wiring.now c.args.ports.now c.args.nodes.now.items

pub loop-i-preserved : goal.loop-i-preserved
loop-i-preserved c =
    shells_more c.args.checked.now c.args.wiring.now c.args.ports.now c.loop-i.i c.index-ports-i.result c.args.nodes.now.items c.loop-i.nodes.items c.push.new.self.items c.in_ok-shell.shell c.loop-i.invariant c.loop-i-test.true c.index-ports-i.is (c.in_ok-push.ensures.items ∙ ap (λ (s : Node). c.loop-i.nodes.items ++ s ∷ []) c.with_layout_at-shell.ensures) c.in_ok-shell.ensures

pub returns : goal.returns
returns c =
    shells_all c.args.checked.now c.args.wiring.now c.args.ports.now _ c.args.nodes.now.items c.loop-i.nodes.items c.loop-i.invariant (take_all c.loop-i.i c.args.ports.now c.loop-i-test.false)
