use Rattle.std.proofs.Common.{◌≡◌, ◌<◌, length, refl, sym, subst, arith}
use Rattle.lid_stations.specs.Placed.{Placing, IsPlaced}
use Rattle.lid_slack_longer.specs.Longer.{room}
use Rattle.lid_slack.specs.Trials.{IsPresent}
use Rattle.lid_slack.proofs.Shown.{found_all, found_less}
use Rattle.lid_slack.proofs.Tried.{can_none, certified_rateable}
use Rattle.lid_slack.proofs.labelled.slack_shown.Goals as goal

pub returns-then-added-most-2 : goal.returns-then-added-most-2
returns-then-added-most-2 c = rw (← c.placed.view_is) (
    let s = c.placed.inside.system.now in
    let p = c.placed.inside.placement.now in
    let ratio = c.present_ratio.result in
    let full : c.args.proposal.now.added ≡ room p c.args.channel = (let is = c.if-added-most-2.true in omega (arith, c.room-most.ensures)) in
    let there = subst (λ (v : Placing). c.args.channel < length v.system.channels) (sym c.placed.view_is) c.requires.channel in
    found_all s p c.args.channel ratio.p ratio.q c.args.proposal.now.added _
    (record { system = c.placed.invariant.formed; fits = c.placed.invariant.fits; there = there; enough = omega (arith, full) })
    (subst (λ (v : Placing). IsPresent v.system v.placement c.args.channel ratio.p ratio.q) (sym c.placed.view_is) c.present_ratio.ensures) full (c.is_present_kept.ensures c.if-not-is_present_kept.false) refl)

pub lower_ratio-requires-clause-rateable : goal.lower_ratio-requires-clause-rateable
lower_ratio-requires-clause-rateable c =
    let s = c.args.placed.now.system in
    let p = c.args.placed.now.placement in
    let placed : IsPlaced s p = subst (λ (v : Placing). IsPlaced v.system v.placement) c.placed.view_is c.placed.invariant in
    certified_rateable s p c.args.channel c.args.present.now (can_none s p c.args.channel placed c.requires.channel) c.requires.present

pub returns-in-Some : goal.returns-in-Some
returns-in-Some c = rw (← c.placed.view_is) (
    let s = c.placed.inside.system.now in
    let p = c.placed.inside.placement.now in
    let ratio = c.present_ratio.result in
    let less : c.args.proposal.now.added < room p c.args.channel =
    (let most = c.if-added-most.false in let other = c.if-added-most-2.false in omega (arith, c.room-most.ensures)) in
    let there = subst (λ (v : Placing). c.args.channel < length v.system.channels) (sym c.placed.view_is) c.requires.channel in
    found_less s p c.args.channel ratio.p ratio.q c.args.proposal.now.added c.in-Some.ratio _
    (record { system = c.placed.invariant.formed; fits = c.placed.invariant.fits; there = there; enough = omega (arith, less) })
    (subst (λ (v : Placing). IsPresent v.system v.placement c.args.channel ratio.p ratio.q) (sym c.placed.view_is) c.present_ratio.ensures)
    less (c.is_present_kept.ensures c.if-not-is_present_kept.false) c.in-Some.ensures.lowers c.in-Some.ensures.ratio refl)
