use Rattle.std.proofs.Common.{Option, Vec, Global, List, IfSome, subst}
use Rattle.lid_rate_ratio.specs.declared.lowest_terms.Ratio.{Ratio}
use Rattle.lid_size_forward.specs.ForwardWalks.{AreWalksBelow, MeetForwardRule}
use Rattle.lid_size_forward.proofs.ForwardShown.{shown_ratios}
use Rattle.lid_size_forward.proofs.ratios.shown_ratios.Goals as goal

pub returns-then-meet_rule-clause-some : goal.returns-then-meet_rule-clause-some
returns-then-meet_rule-clause-some c =
    let so = subst (λ (o : Option (Vec Ratio Global)). IfSome o (λ wants. AreWalksBelow c.args.graph.now c.args.stations c.args.least.now c.args.graph.now.nodes wants.items)) c.in-Some.is c.in_ok-wants.ensures.some in
    shown_ratios c.args.graph.now c.args.stations c.requires.graph c.args.least.now c.requires.labels c.in-Some.wants.items c.as_slice.result.now so
    (subst (λ (ws : List Ratio). MeetForwardRule c.args.graph.now c.args.stations ws c.as_slice.result.now) c.deref.ensures.value (c.meet_rule.ensures.0 c.if-meet_rule.true))
