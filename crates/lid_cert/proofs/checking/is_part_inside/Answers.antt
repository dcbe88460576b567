use Rattle.std.proofs.Common.{ℕ, List, sym, ◌∙◌, ap, subst, arith}
use Rattle.lid_graph.specs.Walks.{IsClosedWalk}
use Rattle.lid_cert.specs.Certificates.{ascends}
use Rattle.lid_cert.proofs.checking.is_part_inside.Goals as goal

pub returns : goal.returns
returns c = (
  λ met. record {
    some = grind arith;
    lists = c.are_lists.ensures.0 c.if-not-are_lists.false;
    ascending = sym (ap ascends c.as_slice.ensures) ∙ (sym c.ascends.ensures ∙ c.if-not-ascends.false);
    within = c.are_within.ensures.0 c.if-not-are_within.false;
    positive = omega arith;
    lowest = c.is_lowest.ensures.0 c.if-not-is_lowest.false;
    walk = subst (λ (ks : List ℕ). IsClosedWalk c.args.graph.now ks) c.as_slice-2.ensures (c.is_closed_walk.ensures.0 c.if-not-is_closed_walk.false);
    ratio = c.has_ratio.ensures.0 c.if-not-has_ratio.false;
    start = c.is_walk_start_met.ensures.0 c.if-not-is_walk_start_met.false;
    nodes = c.are_nodes_met.ensures.0 met;
  },
  λ part. c.are_nodes_met.ensures.1 part.nodes,
)
