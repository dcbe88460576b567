use Rattle.std.proofs.Common.{◌≡◌, ℕ, List, get_or, sym, ◌∙◌, subst, arith}
use Rattle.lid_graph.specs.Walks.{IsLeastJoined}
use Rattle.lid_base.proofs.Lists.{refilled}
use Rattle.lid_graph.proofs.union_find.components.Goals as goal

pub returns-clause-least : goal.returns-clause-least
returns-clause-least c = λ v h.
    let whole : c.from_vec.result ≡ c.label_components.new.parents = c.from_vec.ensures ∙ refilled c.in_ok-parents.parents.len c.label_components.new.parents c.in_ok-parents.parents.items (omega arith) in
    subst (λ (xs : List ℕ). IsLeastJoined c.args.graph.now v (get_or xs v 0)) (sym whole) (c.label_components.ensures v h)
