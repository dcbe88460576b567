use Rattle.std.proofs.Common.{◌+◌, Option, IfSome, subst, arith}
use Rattle.lid_cert.specs.declared.cert.Cert.{Cert}
use Rattle.lid_cert.specs.Certificates.{Certifies}
use Rattle.lid_graph.specs.Ratios.{IsRatio}
use Rattle.lid_stations.specs.Placements.{links_of}
use Rattle.lid_slack_longer.specs.Longer.{producer}
use Rattle.lid_slack.specs.declared.finding.Lower.{Lower}
use Rattle.lid_slack.specs.Trials.{marking_with, ProbeKeeps, IsAgainstMore}
use Rattle.lid_slack.proofs.Tried.{lower_found}
use Rattle.lid_slack.proofs.finding.settle.Goals as goal

pub returns-clause-some : goal.returns-clause-some
returns-clause-some c =
    lower_found c.args.probe.now.system.now c.args.probe.now.placement.now c.args.probe.now.channel c.args.probe.now.present.p c.args.probe.now.present.q c.args.added c.in-Some.cert c.in-Some-2.lower.walk c.in-Some-2.lower.ratio c.told.result.slack c.told.result.next
    c.told.ensures.slack c.told.ensures.next (let other = c.if-added-most.false in omega (arith, c.requires.room, c.requires.can.enough))
    (subst (λ (o : Option Cert). IfSome o (λ cert. Certifies (marking_with c.args.probe.now c.args.added) cert)) c.in-Some.is c.in_ok-cert.ensures.some)
    (subst (λ (o : Option Cert). IfSome o (λ cert. ProbeKeeps c.args.probe.now c.args.added)) c.in-Some.is c.in_ok-cert.ensures.kept)
    (subst (λ (o : Option Lower). IfSome o (λ lower. ProbeKeeps c.args.probe.now (c.args.added + 1) → ⊥)) c.in-Some-2.is c.in_ok-lower.ensures.lowers)
    (subst (λ (o : Option Lower). IfSome o (λ lower. IsAgainstMore c.args.probe.now (c.args.added + 1) lower.walk)) c.in-Some-2.is c.in_ok-lower.ensures.some)
    (subst (λ (o : Option Lower). IfSome o (λ lower. IsRatio (marking_with c.args.probe.now (c.args.added + 1)) (producer (links_of c.args.probe.now.system.now) c.args.probe.now.channel) lower.ratio.p lower.ratio.q)) c.in-Some-2.is c.in_ok-lower.ensures.ratio)
