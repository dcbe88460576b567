use Rattle.std.proofs.Common.{ℕ, List, ◌∷◌, [], ◌++◌, ap, sym, ◌∙◌, append_assoc, zero-add}
use Rattle.lid_base.specs.Each.{from_each}
use Rattle.lid_graph.specs.declared.graph.Edge.{Edge}
use Rattle.lid_stations.specs.Markings.{self_edge}
use Rattle.lid_base.proofs.Each.{each_append}
use Rattle.lid_stations.proofs.marked_graph.push_self_edges.Goals as goal

pub loop-v-preserved : goal.loop-v-preserved
loop-v-preserved c =
    let old = c.args.edges.now.items in
    let v = c.loop-v.v in
    c.in_ok-push.ensures.items
    ∙ ap (λ (es : List Edge). es ++ self_edge v ∷ []) c.loop-v.invariant
    ∙ append_assoc old (from_each self_edge 0 v) (self_edge v ∷ [])
    ∙ ap (λ (es : List Edge). old ++ es) (ap (λ (n : ℕ). from_each self_edge 0 v ++ self_edge n ∷ []) (sym (zero-add v)) ∙ sym (each_append self_edge 0 v 1))
