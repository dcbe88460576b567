use Rattle.std.proofs.Common.{◌≡◌, ◌↔◌, IsTrue, ℕ, Bool, List, length, map, sym, ◌∙◌, ap, subst}
use Rattle.lid_check_digraph.specs.Graphs.{IsGraph, IsReaching, flag}
use Rattle.lid_check_hierarchy.specs.Surveys.{AreReachedMarks}
use Rattle.lid_check_hierarchy.specs.Graphs.{some_of, graph_of}
use Rattle.lid_check_hierarchy.proofs.Walks.{models_are_graph, marks_reached, flag_none, reached_from, long_graph}
use Rattle.lid_base.proofs.Results.{if_both_ok}
use Rattle.lid_check_hierarchy.proofs.uses.mark_used.Goals as goal

pub invariant_of-graph : goal.invariant_of-graph
unfolding graph_of
invariant_of-graph c =
    let whole : c.in_ok-graph.graph ≡ graph_of c.args.design.now = c.in_ok-graph.ensures ∙ ap (map some_of) c.requires.numbers in
    record { is_graph = subst IsGraph (sym whole) (models_are_graph c.args.design.now c.requires.formed) }

pub returns : goal.returns
unfolding graph_of
returns c =
    let whole : c.in_ok-graph.graph ≡ graph_of c.args.design.now = c.in_ok-graph.ensures ∙ ap (map some_of) c.requires.numbers in
    let cut = c.as_slice.ensures.value ∙ c.in_ok-cut.ensures in
    if_both_ok
    {P = λ (marks : List Bool). length marks ≡ length c.in_ok-graph.graph}
    {Q = λ (marks : List Bool). (a : ℕ) → IsTrue (flag marks a) ↔ IsReaching c.in_ok-graph.graph c.as_slice.result.now a c.args.design.now.root}
    {R = AreReachedMarks c.args.design.now}
    c.find_reaching.result
    (λ marks size exact. record {
      size = size ∙ ap length whole ∙ long_graph c.args.design.now;
      exact = marks_reached c.args.design.now c.as_slice.result.now (flag_none _ _ cut) marks (reached_from c.args.design.now _ whole c.as_slice.result.now marks exact);
    })
    c.find_reaching.ensures.count c.find_reaching.ensures.exact
