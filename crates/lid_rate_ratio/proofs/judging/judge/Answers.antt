use Rattle.std.proofs.Common.{Option, IfSome, subst}
use Rattle.lid_rate_ratio.specs.declared.lowest_terms.Ratio.{Ratio}
use Rattle.lid_rate_ratio.specs.Components.{IsCycle}
use Rattle.lid_rate_ratio.proofs.Tested.{has_rate}
use Rattle.lid_rate_ratio.proofs.judging.judge.Goals as goal

pub returns-then-are_shown-clause-some : goal.returns-then-are_shown-clause-some
returns-then-are_shown-clause-some c =
    let cycle : IsCycle c.args.graph.now c.in-Some.ratio.p c.in-Some.ratio.q c.as_slice.result.now = subst (λ (o : Option Ratio). IfSome o (λ ratio. IsCycle c.args.graph.now ratio.p ratio.q c.as_slice.result.now)) c.in-Some.is c.in_ok-ratio.ensures.some in
    has_rate c.args.graph.now c.in-Some.ratio.p c.in-Some.ratio.q c.args.guess.now.lags c.args.guess.now.ranks c.args.guess.now.tight c.requires (c.are_shown.ensures.0 c.if-are_shown.true) c.args.guess.now.walk
    (subst (IsCycle c.args.graph.now c.in-Some.ratio.p c.in-Some.ratio.q) c.as_slice.ensures cycle)
