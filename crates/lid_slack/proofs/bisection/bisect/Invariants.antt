use Rattle.std.proofs.Common.{◌-◌}
use Rattle.lid_slack.specs.Trials.{IsBetween}
use Rattle.lid_slack.proofs.bisection.bisect.Given as goal

abbrev pub decreases-loop-high : goal.decreases-loop-high
decreases-loop-high l = l.high - l.low

abbrev pub invariant-loop-high : goal.invariant-loop-high
invariant-loop-high l = IsBetween l.probe.system.now l.probe.placement.now l.probe.channel l.probe.present.p l.probe.present.q l.low l.high
