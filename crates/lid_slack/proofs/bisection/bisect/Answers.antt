use Rattle.lid_slack.proofs.Tried.{between, most_is, not_true}
use Rattle.lid_slack.proofs.bisection.bisect.Goals as goal

pub loop-high-init : goal.loop-high-init
loop-high-init c =
    between c.args.probe.now.system.now c.args.probe.now.placement.now c.args.probe.now.channel c.args.probe.now.present.p c.args.probe.now.present.q c.requires.present c.args.most c.requires.can
    (λ keeps. not_true c.in_ok-keeps.field-0 (c.in_ok-keeps.ensures.1 keeps) c.if-branch.false)

pub returns : goal.returns
returns c =
    most_is c.args.probe.now.system.now c.args.probe.now.placement.now c.args.probe.now.channel c.args.probe.now.present.p c.args.probe.now.present.q c.requires.present c.loop-high.low c.loop-high.high c.loop-high.invariant c.loop-high-test.false
