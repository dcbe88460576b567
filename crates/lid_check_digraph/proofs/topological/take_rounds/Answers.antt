use Rattle.lid_check_digraph.specs.PartialOrders.{marked, IsStuck}
use Rattle.lid_check_digraph.proofs.PartialOrders.{round_smaller}
use Rattle.lid_check_digraph.proofs.topological.take_rounds.Goals as goal

pub loop-took-smaller : goal.loop-took-smaller
loop-took-smaller c = round_smaller c.in_ok-took.took c.loop-took.took (IsStuck c.args.graph.now.reads.now c.sweep.new.left) (marked c.loop-took.left) (marked c.sweep.new.left) c.in_ok-took.ensures.took c.in_ok-took.ensures.no_more c.loop-took-test.true
