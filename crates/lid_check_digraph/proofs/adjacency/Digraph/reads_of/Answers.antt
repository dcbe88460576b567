use Rattle.std.proofs.Common.{List, ℕ, length, sym, subst}
use Rattle.lid_check_digraph.specs.PartialOrders.{AreBelow}
use Rattle.lid_check_digraph.proofs.Lists.{row_below}
use Rattle.lid_check_digraph.proofs.adjacency.Digraph.reads_of.Goals as goal

pub returns-clause-below : goal.returns-clause-below
returns-clause-below c =
    subst (λ (xs : List ℕ). AreBelow (length c.args.self.now.reads.now) xs) (sym c.list.ensures) (row_below c.args.self.now.reads.now c.args.self.now.is_graph c.args.k)
