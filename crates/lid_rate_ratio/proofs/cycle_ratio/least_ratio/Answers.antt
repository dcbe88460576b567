use Rattle.std.proofs.Common.{◌≡◌, ◌<◌, ◌≤◌, ◌*◌, ℕ, List, length, sym, ◌∙◌, ap, subst}
use Rattle.std.specs.List.{All}
use Rattle.lid_graph.specs.Walks.{walk_tokens}
use Rattle.lid_rate_ratio.specs.BellmanFord.{IsLower, SettlesLags}
use Rattle.lid_rate_ratio.proofs.Rates.{start_rated, lower_within, rated_on, falls_on}
use Rattle.lid_rate_ratio.proofs.cycle_ratio.least_ratio.Goals as goal

pub search-init : goal.search-init
search-init c = start_rated c.args.graph.now c.args.edges.now c.requires.edges c.args.first c.in_ok-walk.walk c.requires.first c.in_ok-walk.ensures

pub tokens_on-requires-clause-within : goal.tokens_on-requires-clause-within
tokens_on-requires-clause-within c =
    let lower : IsLower c.args.graph.now c.args.edges.now c.search.ratio.p c.search.ratio.q c.in-Lower.lower = subst (SettlesLags c.args.graph.now c.args.edges.now c.search.ratio.p c.search.ratio.q) c.in-Lower.is c.in_ok-lags.ensures in
    subst (All (λ k. k < length c.args.graph.now.edges)) (sym c.as_slice.ensures) (lower_within c.args.graph.now c.args.edges.now c.requires.edges c.search.ratio.p c.search.ratio.q c.in-Lower.lower lower)

pub search-smaller : goal.search-smaller
search-smaller c =
    let lower : IsLower c.args.graph.now c.args.edges.now c.search.ratio.p c.search.ratio.q c.in-Lower.lower = subst (SettlesLags c.args.graph.now c.args.edges.now c.search.ratio.p c.search.ratio.q) c.in-Lower.is c.in_ok-lags.ensures in
    let tokens : c.tokens_on.result ≡ walk_tokens c.args.graph.now c.in-Lower.lower = c.tokens_on.ensures.tokens ∙ ap (walk_tokens c.args.graph.now) c.as_slice.ensures in
    let most : c.tokens_on.result ≤ 16 * length c.in-Lower.lower = subst (λ (l : List ℕ). c.tokens_on.result ≤ 16 * length l) c.as_slice.ensures c.tokens_on.ensures.most in
    falls_on c.args.graph.now c.args.edges.now c.requires.edges c.search.ratio.p c.search.ratio.q c.in-Lower.lower lower c.tokens_on.result c.len.result c.lowest-ratio.result.p c.lowest-ratio.result.q tokens c.len.ensures most c.lowest-ratio.ensures c.search.walk c.search.invariant

pub search-preserved : goal.search-preserved
search-preserved c =
    let lower : IsLower c.args.graph.now c.args.edges.now c.search.ratio.p c.search.ratio.q c.in-Lower.lower = subst (SettlesLags c.args.graph.now c.args.edges.now c.search.ratio.p c.search.ratio.q) c.in-Lower.is c.in_ok-lags.ensures in
    let tokens : c.tokens_on.result ≡ walk_tokens c.args.graph.now c.in-Lower.lower = c.tokens_on.ensures.tokens ∙ ap (walk_tokens c.args.graph.now) c.as_slice.ensures in
    let most : c.tokens_on.result ≤ 16 * length c.in-Lower.lower = subst (λ (l : List ℕ). c.tokens_on.result ≤ 16 * length l) c.as_slice.ensures c.tokens_on.ensures.most in
    rated_on c.args.graph.now c.args.edges.now c.requires.edges c.search.ratio.p c.search.ratio.q c.in-Lower.lower lower c.tokens_on.result c.len.result c.lowest-ratio.result.p c.lowest-ratio.result.q tokens c.len.ensures most c.lowest-ratio.ensures
