use Rattle.std.proofs.Common.{List, ℕ, false, set, sym, subst}
use Rattle.lid_base.specs.Lists.{Among}
use Rattle.lid_check_digraph.specs.PartialOrders.{IsPartialOrder}
use Rattle.lid_check_digraph.proofs.PartialOrders.{part_more}
use Rattle.lid_check_digraph.proofs.partial_order.take_up.Goals as goal

pub returns-clause-part : goal.returns-clause-part
returns-clause-part c =
    subst (λ (xs : List ℕ). IsPartialOrder c.args.graph.now.reads.now xs (set c.args.left.now c.args.k false)) (sym c.in_ok-push.ensures.items)
    (part_more c.args.graph.now.reads.now c.args.order.now.items c.args.left.now c.requires.part c.args.graph.now.is_graph c.args.k c.if-not-left-k.false
    (λ b h. c.if-is_any.ensures b (subst (λ (xs : List ℕ). Among b xs) (sym c.reads_of.ensures.reads) h)))
