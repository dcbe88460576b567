use Rattle.std.proofs.Common.{Bool, List, sym, ◌∙◌, ap, subst}
use Rattle.lid_check_digraph.specs.Graphs.{IsGraph}
use Rattle.lid_design.specs.declared.Design.{Design}
use Rattle.lid_check_hierarchy.specs.Graphs.{kept, IsUsedGraph}
use Rattle.lid_check_hierarchy.proofs.Orders.{kept_used}
use Rattle.lid_check_hierarchy.proofs.Surveying.{used_is_graph}
use Rattle.lid_base.proofs.Results.{if_ok}
use Rattle.lid_check_hierarchy.proofs.uses.Uses.graph.Goals as goal

pub returns-clause-used : goal.returns-clause-used
returns-clause-used c =
    let used = subst (λ (d : Design). IsUsedGraph d (kept c.self.inside.reached.marks c.self.inside.numbers)) c.self.view_is (kept_used _ c.self.inside.reached.marks c.self.inside.numbers c.self.invariant.marked c.self.invariant.each) in
    if_ok c.keep_marked_rows.result (λ g e. subst (IsUsedGraph c.args.self.now) (sym (e ∙ ap (λ (marks : List Bool). kept marks c.as_slice-2.result.now) c.as_slice.ensures ∙ ap (kept c.self.inside.reached.marks) c.as_slice-2.ensures)) used) c.keep_marked_rows.ensures

pub returns-clause-graph : goal.returns-clause-graph
returns-clause-graph c =
    let used = kept_used _ c.self.inside.reached.marks c.self.inside.numbers c.self.invariant.marked c.self.invariant.each in
    if_ok c.keep_marked_rows.result (λ g e. subst IsGraph (sym (e ∙ ap (λ (marks : List Bool). kept marks c.as_slice-2.result.now) c.as_slice.ensures ∙ ap (kept c.self.inside.reached.marks) c.as_slice-2.ensures)) (used_is_graph _ c.self.invariant.formed _ used)) c.keep_marked_rows.ensures
