use Rattle.std.proofs.Common.{◌≡◌, ◌*◌, ◌<◌, ℕ, Option, IfSome, ◌∙◌, ap, subst, arith}
use Rattle.std.proofs.lemmas.Bool.{ltb-true}
use Rattle.lid_rate_ratio.specs.declared.lowest_terms.Ratio.{Ratio}
use Rattle.lid_rate_ratio.specs.Components.{IsCycle}
use Rattle.lid_rate_ratio.proofs.Searched.{lower_of}
use Rattle.lid_rate_ratio.proofs.holding.is_lower.Goals as goal

pub returns : goal.returns
returns c less =
    let cycle : IsCycle c.args.graph.now c.in-Some.ratio.p c.in-Some.ratio.q c.args.walk.now = subst (λ (o : Option Ratio). IfSome o (λ ratio. IsCycle c.args.graph.now ratio.p ratio.q c.args.walk.now)) c.in-Some.is c.in_ok-ratio.ensures.some in
    let a : c.from.result * c.from-2.result ≡ c.args.aim.q * c.in-Some.ratio.p = ap (λ (n : ℕ). n * c.from-2.result) c.from.ensures ∙ ap (λ (n : ℕ). c.args.aim.q * n) c.from-2.ensures in
    let b : c.from-3.result * c.from-4.result ≡ c.args.aim.p * c.in-Some.ratio.q = ap (λ (n : ℕ). n * c.from-4.result) c.from-3.ensures ∙ ap (λ (n : ℕ). c.args.aim.p * n) c.from-4.ensures in
    let both : c.from.result * c.from-2.result < c.from-3.result * c.from-4.result = ltb-true (c.from.result * c.from-2.result) (c.from-3.result * c.from-4.result) less in
    lower_of c.args.graph.now c.args.aim.p c.args.aim.q c.in-Some.ratio.p c.in-Some.ratio.q c.args.walk.now cycle (omega arith)
