use Rattle.std.proofs.Common.{ℕ, length, sym, subst}
use Rattle.std.proofs.lemmas.Result.{IfOk-weaker}
use Rattle.lid_rate_ratio.specs.Numbers.{AreAllNumbers}
use Rattle.lid_rate_ratio.proofs.Searched.{one_token_loop, has_rate}
use Rattle.lid_rate_ratio.proofs.rating.search.Goals as goal

pub least_ratio-requires-clause-first : goal.least_ratio-requires-clause-first
least_ratio-requires-clause-first c =
    let all : AreAllNumbers (length c.args.graph.now.edges) c.deref.result.now = subst (AreAllNumbers (length c.args.graph.now.edges)) (sym c.deref.ensures.value) (subst (λ (n : ℕ). AreAllNumbers n c.in_ok-all.all.items) c.len.ensures c.in_ok-all.ensures) in
    one_token_loop c.args.graph.now c.requires.graph c.deref.result.now all c.args.first c.requires.first

pub returns : goal.returns
returns c =
    let all : AreAllNumbers (length c.args.graph.now.edges) c.deref.result.now = subst (AreAllNumbers (length c.args.graph.now.edges)) (sym c.deref.ensures.value) (subst (λ (n : ℕ). AreAllNumbers n c.in_ok-all.all.items) c.len.ensures c.in_ok-all.ensures) in
    IfOk-weaker c.least_ratio.result _ _ (λ rate is. has_rate c.args.graph.now c.requires.graph c.deref.result.now all rate.ratio.p rate.ratio.q rate.walk rate.lags is) c.least_ratio.ensures
