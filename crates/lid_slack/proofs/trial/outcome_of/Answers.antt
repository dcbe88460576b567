use Rattle.std.proofs.Common.{ℕ, ◌*◌, ◌<◌, IsTrue, sym, subst}
use Rattle.lid_cert.specs.Certificates.{part_at}
use Rattle.lid_slack.proofs.Tried.{kept, not_kept, against, not_below}
use Rattle.lid_slack.proofs.trial.outcome_of.Goals as goal

module _ (c : goal.After-is_below-lowers) where
  abbrev p : ℕ
  p = (part_at c.in_ok-trial.trial.cert.parts c.in_ok-trial.trial.part).p

  abbrev q : ℕ
  q = (part_at c.in_ok-trial.trial.cert.parts c.in_ok-trial.trial.part).q

  is_lower : IsTrue c.is_below-lowers.result → p * c.args.probe.now.present.q < c.args.probe.now.present.p * q
  is_lower holds =
      subst (λ (m : ℕ). m * c.args.probe.now.present.q < c.args.probe.now.present.p * q) c.ratio_of.ensures.p
      (subst (λ (n : ℕ). c.ratio_of.result.p * c.args.probe.now.present.q < c.args.probe.now.present.p * n) c.ratio_of.ensures.q (c.is_below-lowers.ensures.0 holds))

  from_lower : p * c.args.probe.now.present.q < c.args.probe.now.present.p * q → IsTrue c.is_below-lowers.result
  from_lower less =
      c.is_below-lowers.ensures.1 (subst (λ (m : ℕ). m * c.args.probe.now.present.q < c.args.probe.now.present.p * c.ratio_of.result.q) (sym c.ratio_of.ensures.p)
      (subst (λ (n : ℕ). p * c.args.probe.now.present.q < c.args.probe.now.present.p * n) (sym c.ratio_of.ensures.q) less))

pub returns-clause-kept : goal.returns-clause-kept
returns-clause-kept c fails =
    kept c.args.probe.now.system.now c.args.probe.now.placement.now c.args.probe.now.channel c.args.probe.now.present.p c.args.probe.now.present.q c.requires.present c.args.more c.requires.can c.in_ok-trial.trial.cert c.in_ok-trial.trial.part c.in_ok-trial.ensures
    (not_below c.is_below-lowers.result (p c * c.args.probe.now.present.q) (c.args.probe.now.present.p * q c) (from_lower c) fails)

pub returns-clause-lower : goal.returns-clause-lower
returns-clause-lower c holds =
    not_kept c.args.probe.now.system.now c.args.probe.now.placement.now c.args.probe.now.channel c.args.probe.now.present.p c.args.probe.now.present.q c.requires.present c.args.more c.requires.can c.in_ok-trial.trial.cert c.in_ok-trial.trial.part c.in_ok-trial.ensures (is_lower c holds)

pub returns-clause-walk : goal.returns-clause-walk
returns-clause-walk c holds =
    against c.args.probe.now.system.now c.args.probe.now.placement.now c.args.probe.now.channel c.args.probe.now.present.p c.args.probe.now.present.q c.requires.present c.args.more c.requires.can c.in_ok-trial.trial.cert c.in_ok-trial.trial.part c.in_ok-trial.ensures (is_lower c holds)
