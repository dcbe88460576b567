use Rattle.std.proofs.Common.{subst}
use Rattle.lid_check_digraph.specs.declared.topological.Found.{Found}
use Rattle.lid_check_digraph.specs.Results.{IsFound}
use Rattle.lid_check_parts.proofs.flat.order_of.Goals as goal

pub unreachable-requires : goal.unreachable-requires
unreachable-requires c =
    let found = subst (λ (f : Found). IsFound c.args.reads.now f) c.in-Loop.is c.in_ok-order.ensures in
    c.requires.loops c.in-Loop.field-0 found.on
