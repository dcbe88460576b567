use Rattle.std.proofs.Common.{ℕ, ◌<◌, List, length, get_or, subst, arith}
use Rattle.lid_graph.specs.declared.graph.Edge.{Edge}
use Rattle.lid_graph.specs.Walks.{no_edge, edge_at}
use Rattle.lid_graph.specs.Forests.{IsLabelled, merged}
use Rattle.lid_graph.proofs.Trees.{linked_none, linked_more}
use Rattle.lid_graph.proofs.union_find.unite_all.Goals as goal

pub loop-k-init : goal.loop-k-init
loop-k-init c = record {
  forest = λ v h. omega (arith, c.requires.own v (omega (arith, c.requires.length)));
  linked = (λ v. v, linked_none c.args.graph.now c.args.parents.now c.requires.length c.requires.own);
}

pub loop-k-preserved : goal.loop-k-preserved
loop-k-preserved c =
    let label : ℕ → ℕ = c.loop-k.invariant.linked.0 in
    let linked = c.loop-k.invariant.linked.1 in
    let same = c.as_slice-edges.ensures in
    let within : c.loop-k.k < length c.args.graph.now.edges = subst (λ (es : List Edge). c.loop-k.k < length es) same c.loop-k-test.true in
    let labelled : IsLabelled c.unite.new.parents (merged label (edge_at c.args.graph.now c.loop-k.k).from (edge_at c.args.graph.now c.loop-k.k).to)
    = subst (λ (es : List Edge). IsLabelled c.unite.new.parents (merged label (get_or es c.loop-k.k no_edge).from (get_or es c.loop-k.k no_edge).to)) same (c.unite.ensures.label label linked.labelled) in
    record {
      forest = c.unite.ensures.forest;
      linked = (
        merged label (edge_at c.args.graph.now c.loop-k.k).from (edge_at c.args.graph.now c.loop-k.k).to,
        linked_more c.args.graph.now c.requires.paired label c.loop-k.k within c.loop-k.parents c.unite.new.parents linked labelled,
      );
    }
