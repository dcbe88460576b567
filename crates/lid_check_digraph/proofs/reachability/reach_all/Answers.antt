use Rattle.std.proofs.Common.{get_or}
use Rattle.lid_base.proofs.Lists.{among_at}
use Rattle.lid_check_digraph.proofs.Reached.{reached_more}
use Rattle.lid_check_digraph.proofs.reachability.reach_all.Goals as goal

pub reach_one-requires-clause-within : goal.reach_one-requires-clause-within
reach_one-requires-clause-within c = c.requires.order.within (get_or c.args.order.now c.loop-k.k-index 0) (among_at c.args.order.now c.loop-k.k-index 0 c.loop-k-test.true)

pub reach_one-requires-clause-earlier : goal.reach_one-requires-clause-earlier
reach_one-requires-clause-earlier c = λ b h. c.loop-k.invariant b (c.requires.order.earlier c.loop-k.k-index b c.loop-k-test.true h)

pub loop-k-preserved : goal.loop-k-preserved
loop-k-preserved c = reached_more c.args.graph.now.reads.now c.args.cut.now c.args.starts.now c.args.order.now c.loop-k.k-index c.loop-k.reached c.reach_one.new.reached c.loop-k.invariant c.reach_one.ensures.here c.reach_one.ensures.others
