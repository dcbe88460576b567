use Rattle.std.proofs.Common.{◌≡◌, ℕ, subst, arith}
use Rattle.lid_stations.specs.Placements.{links_of}
use Rattle.lid_slack_longer.specs.Longer.{KeepsAt}
use Rattle.lid_slack_longer.proofs.Kept.{none_keep}
use Rattle.lid_slack.proofs.labelled.is_present_kept.Goals as goal

pub returns-then-added-eq0 : goal.returns-then-added-eq0
returns-then-added-eq0 c holds =
    let s = c.args.probe.now.system.now in
    let p = c.args.probe.now.placement.now in
    let channel = c.args.probe.now.channel in
    let is : 0 ≡ c.args.added = (let none = c.if-added-eq0.true in omega arith) in
    subst (λ (n : ℕ). KeepsAt (links_of s) p channel n c.args.probe.now.present.p c.args.probe.now.present.q) is
    (none_keep s p channel c.args.probe.now.present.p c.args.probe.now.present.q c.requires.can.system c.requires.can.fits (omega (arith, c.requires.can.there, c.requires.can.fits.counts)) c.requires.present.ratio)
