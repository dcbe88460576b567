use Rattle.lid_check_digraph.proofs.Uphill.{uphill_holds}
use Rattle.lid_check_digraph.proofs.tarjan.mark_all.Goals as goal

pub returns : goal.returns
returns c = λ yes. uphill_holds c.args.graph.now.reads.now c.mark_back.new.marks c.args.ranks.now (c.is_uphill.ensures yes)
