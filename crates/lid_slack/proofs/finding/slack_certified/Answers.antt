use Rattle.std.proofs.Common.{◌<◌, length, Option, IfSome, sym, subst}
use Rattle.lid_base.proofs.Results.{if_ok}
use Rattle.lid_stations.specs.Placed.{Placing}
use Rattle.lid_slack.specs.declared.answer.SlackAndNext.{SlackAndNext}
use Rattle.lid_slack.specs.Trials.{IsPresent, IsFoundSlack}
use Rattle.lid_slack.proofs.Tried.{told_is}
use Rattle.lid_slack.proofs.finding.slack_certified.Goals as goal

pub returns-in-Some-clause-slack : goal.returns-in-Some-clause-slack
returns-in-Some-clause-slack c = rw (← c.placed.view_is) (
    let s = c.placed.inside.system.now in
    let p = c.placed.inside.placement.now in
    let ratio = c.in_ok-opening.opening.present in
    told_is s p c.args.channel ratio.p ratio.q (subst (λ (v : Placing). IsPresent v.system v.placement c.args.channel ratio.p ratio.q) (sym c.placed.view_is) c.in_ok-opening.ensures.present)
    c.placed.invariant.formed c.placed.invariant.fits (subst (λ (v : Placing). c.args.channel < length v.system.channels) (sym c.placed.view_is) c.requires.channel) c.in-Some.found.slack c.in-Some.found.next
    (subst (λ (o : Option SlackAndNext). IfSome o (λ all. IsFoundSlack s p c.args.channel ratio.p ratio.q all.slack all.next)) c.in-Some.is c.in_ok-found.ensures.some))

pub returns-in-None-clause-slack : goal.returns-in-None-clause-slack
returns-in-None-clause-slack c = rw (← c.placed.view_is) (
    let s = c.placed.inside.system.now in
    let p = c.placed.inside.placement.now in
    let ratio = c.in_ok-opening.opening.present in
    let present = subst (λ (v : Placing). IsPresent v.system v.placement c.args.channel ratio.p ratio.q) (sym c.placed.view_is) c.in_ok-opening.ensures.present in
    let there = subst (λ (v : Placing). c.args.channel < length v.system.channels) (sym c.placed.view_is) c.requires.channel in
    if_ok c.search.result (λ all found. told_is s p c.args.channel ratio.p ratio.q present c.placed.invariant.formed c.placed.invariant.fits there all.slack all.next found) c.search.ensures)

pub returns-in-None-clause-next : goal.returns-in-None-clause-next
returns-in-None-clause-next c = rw (← c.placed.view_is) (if_ok c.search.result (λ all found. found.next_is) c.search.ensures)
