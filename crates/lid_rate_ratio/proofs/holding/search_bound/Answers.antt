use Rattle.std.proofs.Common.{ℕ, length, sym, subst}
use Rattle.lid_rate_ratio.specs.BellmanFord.{SettlesLags, AreLags, IsLower}
use Rattle.lid_rate_ratio.specs.Numbers.{AreAllNumbers}
use Rattle.lid_rate_ratio.proofs.Searched.{lags_keep, lower_walk}
use Rattle.lid_rate_ratio.proofs.holding.search_bound.Goals as goal

pub returns-in-Lags : goal.returns-in-Lags
returns-in-Lags c =
    let all : AreAllNumbers (length c.args.graph.now.edges) c.deref.result.now = subst (AreAllNumbers (length c.args.graph.now.edges)) (sym c.deref.ensures.value) (subst (λ (n : ℕ). AreAllNumbers n c.in_ok-all.all.items) c.len.ensures c.in_ok-all.ensures) in
    let lags : AreLags c.args.graph.now c.deref.result.now c.args.aim.p c.args.aim.q c.in-Lags.lags = subst (SettlesLags c.args.graph.now c.deref.result.now c.args.aim.p c.args.aim.q) c.in-Lags.is c.in_ok-lags.ensures in
    lags_keep c.args.graph.now c.requires.graph c.deref.result.now all c.args.aim.p c.args.aim.q c.in-Lags.lags lags

pub returns : goal.returns
returns c =
    let all : AreAllNumbers (length c.args.graph.now.edges) c.deref.result.now = subst (AreAllNumbers (length c.args.graph.now.edges)) (sym c.deref.ensures.value) (subst (λ (n : ℕ). AreAllNumbers n c.in_ok-all.all.items) c.len.ensures c.in_ok-all.ensures) in
    let lower : IsLower c.args.graph.now c.deref.result.now c.args.aim.p c.args.aim.q c.in-Lower.walk = subst (SettlesLags c.args.graph.now c.deref.result.now c.args.aim.p c.args.aim.q) c.in-Lower.is c.in_ok-lags.ensures in
    lower_walk c.args.graph.now c.requires.graph c.deref.result.now all c.args.aim.p c.args.aim.q c.in-Lower.walk lower
