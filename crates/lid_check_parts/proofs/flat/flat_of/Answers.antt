use Rattle.std.proofs.Common.{ℕ, List, map, refl, sym, ◌∙◌, ap, subst}
use Rattle.lid_check_digraph.specs.Graphs.{IsGraph, HasNoLoop, IsOrder}
use Rattle.lid_check_elab.specs.Elaborations.{driver_reads}
use Rattle.lid_check_parts.specs.Inner.{inner_drivers, latches_in, network_covers}
use Rattle.lid_check_parts.proofs.Looping.{graph_by, loops_by, flattened_by}
use Rattle.lid_check_parts.proofs.flat.flat_of.Goals as goal

pub order_of-requires-clause-graph : goal.order_of-requires-clause-graph
order_of-requires-clause-graph c =
    let source = c.args.source.now in
    subst IsGraph (sym c.requires.reads) (graph_by source.drivers.now source.part c.requires.part _ refl c.requires.few)

pub order_of-requires-clause-loops : goal.order_of-requires-clause-loops
order_of-requires-clause-loops c =
    let source = c.args.source.now in
    subst HasNoLoop (sym c.requires.reads) (loops_by source.drivers.now source.part c.requires.part _ refl c.requires.loops)

pub find_cells-requires-clause-order : goal.find_cells-requires-clause-order
find_cells-requires-clause-order c =
    subst (λ (order : List ℕ). IsOrder (map driver_reads (inner_drivers c.args.source.now.drivers.now c.args.source.now.part)) order) (sym c.as_slice.ensures)
    (subst (λ (g : List (List ℕ)). IsOrder g c.in_ok-order.order) c.requires.reads c.in_ok-order.ensures)

pub returns : goal.returns
returns c =
    let source = c.args.source.now in
    let d = source.design.now in
    let inner = inner_drivers source.drivers.now source.part in
    let order = c.in_ok-order.order in
    flattened_by source.drivers.now source.part c.requires.part inner refl d _ order c.requires.few
    (subst (λ (g : List (List ℕ)). IsOrder g order) c.requires.reads c.in_ok-order.ensures)
    c.requires.covers refl c.in_ok-ports.ensures.ins c.in_ok-ports.ensures.outs
    (c.from_vec.ensures ∙ c.in_ok-cells.ensures.latches ∙ ap (λ (ks : List ℕ). latches_in d inner ks) c.as_slice.ensures)
    (c.from_vec-2.ensures ∙ c.in_ok-cells.ensures.covers ∙ ap (λ (ks : List ℕ). network_covers d inner ks) c.as_slice.ensures)
