use Rattle.std.proofs.Common.{◌≡◌, List, ℕ, map, length, sym, ◌∙◌, subst, arith}
use Rattle.std.proofs.lemmas.List.{length-map}
use Rattle.lid_check_digraph.specs.Graphs.{IsGraph}
use Rattle.lid_check_digraph.specs.Results.{IsFound, IsLeastOnLoop}
use Rattle.lid_check_digraph.specs.declared.topological.Found.{Found}
use Rattle.lid_check_digraph.specs.declared.topological.Found.TheVariants.{Order, Loop}
use Rattle.lid_check_elab.specs.Elaborations.{shown_driver}
use Rattle.lid_check_loops.proofs.Numbered.{is_graph, first_loop, ordered_has_none, reads_shown}
use Rattle.lid_check_loops.proofs.flaws.find_among.Goals as goal

pub invariant_of-graph : goal.invariant_of-graph
invariant_of-graph c =
    let columns = c.args.columns.now in
    let network = map (shown_driver columns.design) columns.drivers in
    let long : length network ≡ length columns.drivers = length-map columns.drivers (shown_driver columns.design) in
    record { is_graph = subst (λ (g : List (List ℕ)). IsGraph g) (sym (c.requires ∙ reads_shown columns.design columns.drivers)) (is_graph columns.design network columns.starts c.judged.ensures.elaborated (let few = c.judged.ensures.few in omega arith)) }

pub find_in_order-requires-clause-order : goal.find_in_order-requires-clause-order
find_in_order-requires-clause-order c =
    let found : IsFound c.args.reads.now (Order c.in-Order.order) = subst (λ (f : Found). IsFound c.args.reads.now f) c.in-Order.is c.in_ok-order.ensures in
    found.0

pub find_in_order-requires-clause-loops : goal.find_in_order-requires-clause-loops
find_in_order-requires-clause-loops c =
    let columns = c.args.columns.now in
    ordered_has_none columns.design _ columns.starts c.judged.ensures.elaborated c.args.reads.now _ c.in-Order.order (c.requires ∙ reads_shown columns.design columns.drivers) c.in_ok-order.ensures c.in-Order.is

pub returns-in-Loop : goal.returns-in-Loop
returns-in-Loop c =
    let columns = c.args.columns.now in
    let found : IsFound c.args.reads.now (Loop c.in-Loop.first) = subst (λ (f : Found). IsFound c.args.reads.now f) c.in-Loop.is c.in_ok-order.ensures in
    first_loop columns.design _ columns.starts c.judged.ensures.elaborated c.in-Loop.first (subst (λ (g : List (List ℕ)). IsLeastOnLoop g c.in-Loop.first) (c.requires ∙ reads_shown columns.design columns.drivers) found)
