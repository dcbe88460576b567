use Rattle.std.proofs.Common.{ℕ, get_or, sym, ◌∙◌, ap, arith}
use Rattle.lid_graph.specs.Walks.{walk_start}
use Rattle.lid_size_forward.proofs.ForwardShown.{forward_walk}
use Rattle.lid_size_forward.proofs.Closed.{walk_within}
use Rattle.lid_size_forward.proofs.ratios.walk_ratio.Goals as goal

pub tokens_on-requires-clause-within : goal.tokens_on-requires-clause-within
tokens_on-requires-clause-within c = walk_within c.args.graph.now c.args.walk.now (walk_start c.args.graph.now c.args.walk.now) (walk_start c.args.graph.now c.args.walk.now) (c.is_closed_walk.ensures.0 c.if-not-is_closed_walk.false).closed

pub returns-clause-some : goal.returns-clause-some
returns-clause-some c =
    forward_walk c.args.graph.now c.args.stations c.requires.graph c.args.least.now c.requires.labels c.args.label c.args.walk.now c.tokens_on.result c.lowest.result
    (c.is_closed_walk.ensures.0 c.if-not-is_closed_walk.false) (c.are_forward.ensures.0 c.if-not-are_forward.false)
    (ap (λ (v : ℕ). get_or c.args.least.now v 0) (sym c.walk_start.ensures) ∙ c.if-least-walk_start.false)
    c.tokens_on.ensures.tokens c.tokens_on.ensures.most (omega (arith, c.if-walk-gt262144.false)) c.lowest.ensures
