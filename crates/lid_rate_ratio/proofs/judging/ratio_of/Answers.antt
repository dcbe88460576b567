use Rattle.std.proofs.Common.{false, length, replicate, refl, arith}
use Rattle.lid_graph.specs.Walks.{walk_start}
use Rattle.lid_rate_ratio.proofs.Tested.{leads_within, cycle_of}
use Rattle.lid_rate_ratio.proofs.judging.ratio_of.Goals as goal

pub tokens_on-requires-clause-within : goal.tokens_on-requires-clause-within
tokens_on-requires-clause-within c =
    leads_within c.args.graph.now c.args.walk.now (walk_start c.args.graph.now c.args.walk.now) (replicate c.args.graph.now.nodes false) (walk_start c.args.graph.now c.args.walk.now) (c.in_ok-is_cycle.ensures.0 c.if-not-branch.false)

pub returns-clause-some : goal.returns-clause-some
returns-clause-some c =
    cycle_of c.args.graph.now c.requires c.args.walk.now c.tokens_on.result (length c.args.walk.now) c.lowest.result.p c.lowest.result.q (c.in_ok-is_cycle.ensures.0 c.if-not-branch.false) (grind arith) (grind arith) c.tokens_on.ensures.tokens refl c.tokens_on.ensures.most c.lowest.ensures
