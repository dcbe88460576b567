use Rattle.std.proofs.Common.{sym, subst}
use Rattle.lid_base.proofs.Results.{if_ok}
use Rattle.lid_rate_ratio.specs.Bounds.{MeetRule}
use Rattle.lid_rate_ratio.proofs.Searched.{keeps}
use Rattle.lid_rate_ratio.proofs.holding.holds_by.Goals as goal

pub returns-then-meet_rule-clause-is : goal.returns-then-meet_rule-clause-is
returns-then-meet_rule-clause-is c = keeps c.args.graph.now c.args.aim.p c.args.aim.q c.args.guess.labels (subst (MeetRule c.args.graph.now c.args.aim.p c.args.aim.q) c.as_slice.ensures (c.meet_rule.ensures.0 c.if-meet_rule.true))

pub returns-then-branch-clause-taken : goal.returns-then-branch-clause-taken
returns-then-branch-clause-taken c rule =
    absurd (let yes = c.meet_rule.ensures.1 (subst (MeetRule c.args.graph.now c.args.aim.p c.args.aim.q) (sym c.as_slice.ensures) rule) in let no = c.if-meet_rule.false in cc)

pub returns-clause-taken : goal.returns-clause-taken
returns-clause-taken c = if_ok c.search_bound.result (λ bound is rule.
    absurd (let yes = c.meet_rule.ensures.1 (subst (MeetRule c.args.graph.now c.args.aim.p c.args.aim.q) (sym c.as_slice.ensures) rule) in let no = c.if-meet_rule.false in cc)) c.search_bound.ensures
