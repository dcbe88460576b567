use Rattle.std.proofs.Common.{sym, subst}
use Rattle.lid_check_digraph.specs.Graphs.{IsOrder}
use Rattle.lid_check_digraph.specs.Results.{IsFound}
use Rattle.lid_check_digraph.specs.declared.topological.Found.TheVariants.{Order, Loop}
use Rattle.lid_design.specs.Models.{HasNoRecursion}
use Rattle.lid_check_hierarchy.specs.Surveys.{IsModelOrder}
use Rattle.lid_check_hierarchy.proofs.Orders.{kept_order, least_recursive, none_recursive}
use Rattle.lid_base.proofs.Results.{if_ok}
use Rattle.lid_check_hierarchy.proofs.Steps.{on_any}
use Rattle.lid_check_hierarchy.proofs.survey.find_model_order.Goals as goal

pub invariant_of-graph : goal.invariant_of-graph
invariant_of-graph c = record { is_graph = c.in-Ok.ensures.graph }

pub returns-in-Ok-Order-clause-order : goal.returns-in-Ok-Order-clause-order
returns-in-Ok-Order-clause-order c =
    let used = c.in-Ok.ensures.used in
    let found : IsFound c.in-Ok.graph (Order c.in-Ok-Order.all) = subst (IsFound c.in-Ok.graph) c.in-Ok-Order.field-0-is c.in-Ok-Order.ensures in
    let is = subst (IsOrder c.in-Ok.graph) (sym c.as_slice.ensures) found.0 in
    if_ok c.keep_order.result (λ order kept. subst (IsModelOrder c.args.uses.now) (sym kept.same) (kept_order c.args.uses.now c.in-Ok.graph used c.as_slice.result.now is kept.marks kept.marked)) c.keep_order.ensures.ok

pub returns-in-Ok-Order-clause-flat : goal.returns-in-Ok-Order-clause-flat
returns-in-Ok-Order-clause-flat c =
    let used = c.in-Ok.ensures.used in
    let found : IsFound c.in-Ok.graph (Order c.in-Ok-Order.all) = subst (IsFound c.in-Ok.graph) c.in-Ok-Order.field-0-is c.in-Ok-Order.ensures in
    on_any {P = HasNoRecursion c.args.uses.now} (none_recursive c.args.uses.now c.in-Ok.graph used found.1) c.keep_order.result

pub returns-in-Ok-Loop-clause-err : goal.returns-in-Ok-Loop-clause-err
returns-in-Ok-Loop-clause-err c =
    let used = c.in-Ok.ensures.used in
    let found : IsFound c.in-Ok.graph (Loop c.in-Ok-Loop.model) = subst (IsFound c.in-Ok.graph) c.in-Ok-Loop.field-0-is c.in-Ok-Loop.ensures in
    least_recursive c.args.uses.now c.in-Ok.graph used c.in-Ok-Loop.model found
