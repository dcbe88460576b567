use Rattle.std.proofs.Common.{ℕ, ◌<◌, length, sym, subst, arith}
use Rattle.lid_graph.specs.Walks.{IsLeastJoined}
use Rattle.lid_graph.proofs.Trees.{least_label}
use Rattle.lid_graph.proofs.union_find.label_components.Goals as goal

pub returns : goal.returns
returns c = λ v h.
    let complete = c.unite_all.ensures in
    let within : v < length c.flatten.new.parents = omega (arith, complete.long) in
    subst (λ (n : ℕ). IsLeastJoined c.args.graph.now v n) (sym (c.flatten.ensures complete.linked.0 complete.linked.1.labelled v within))
    (least_label c.args.graph.now c.requires.paired c.unite_all.new.parents complete.linked.0 complete.long complete.forest complete.linked.1 v h)
