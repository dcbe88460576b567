use Rattle.std.proofs.Common.{Bool, List, sym, subst, arith}
use Rattle.lid_check_digraph.specs.PartialOrders.{MarksLoops}
use Rattle.lid_base.proofs.Lists.{refilled}
use Rattle.lid_check_digraph.proofs.tarjan.looping.Goals as goal

pub returns-then-mark_all-clause-loops : goal.returns-then-mark_all-clause-loops
returns-then-mark_all-clause-loops c =
    subst (λ (marks : List Bool). MarksLoops c.args.graph.now.reads.now marks) (sym (refilled c.in_ok-marks.marks.len c.mark_all.new.marks c.in_ok-marks.marks.items (omega arith)))
    (c.mark_all.ensures c.if-mark_all.true)
