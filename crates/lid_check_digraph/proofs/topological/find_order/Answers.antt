use Rattle.std.proofs.Common.{◌≡◌, ◌<◌, Bool, List, ℕ, length, sym, ◌∙◌, ap, subst, arith}
use Rattle.lid_check_digraph.specs.Graphs.{IsOrder, HasNoLoop, flag}
use Rattle.lid_check_digraph.specs.PartialOrders.{marked}
use Rattle.lid_check_digraph.proofs.Lists.{some_marked}
use Rattle.lid_check_digraph.proofs.Orders.{order_has_none}
use Rattle.lid_check_digraph.proofs.PartialOrders.{part_whole, loops_left}
use Rattle.lid_check_digraph.proofs.Trails.{stuck_loop}
use Rattle.lid_check_digraph.proofs.topological.find_order.Goals as goal

pub returns-then-len : goal.returns-then-len
returns-then-len c =
    let g = c.args.graph.now.reads.now in
    let order = c.in_ok-order.field-0.order.items in
    let long : length c.in_ok-order.field-0.order.items ≡ length c.args.graph.now.reads.now = omega (arith, c.in_ok-order.field-0.order.ok.0, c.if-len.true) in
    let is = part_whole g order c.in_ok-order.field-0.left.items c.in_ok-order.ensures.part long in
    subst (λ (xs : List ℕ). IsOrder g xs × HasNoLoop g) (sym c.from_vec.ensures) (is, order_has_none g order is)

pub least_left-requires-clause-loops : goal.least_left-requires-clause-loops
least_left-requires-clause-loops c = λ k on.
    ap (λ (l : List Bool). flag l k) c.as_slice-2.ensures.value ∙ loops_left c.args.graph.now.reads.now c.in_ok-order.field-0.order.items c.in_ok-order.field-0.left.items c.in_ok-order.ensures.part k on

pub least_left-requires-clause-some : goal.least_left-requires-clause-some
least_left-requires-clause-some c = λ none.
    let g = c.args.graph.now.reads.now in
    let part = c.in_ok-order.ensures.part in
    let counted = part.counted in
    let some : 0 < marked c.in_ok-order.field-0.left.items = omega (arith, c.in_ok-order.field-0.order.ok.0, c.if-len.false) in
    let one = some_marked c.in_ok-order.field-0.left.items some in
    let loop = stuck_loop g c.in_ok-order.field-0.left.items part.count c.in_ok-order.ensures.stuck one.0 one.1 in
    none loop.0 loop.1
