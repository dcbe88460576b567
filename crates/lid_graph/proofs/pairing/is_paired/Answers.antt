use Rattle.lid_graph.proofs.pairing.is_paired.Goals as goal

pub returns : goal.returns
returns c = (
  λ selves. record { ends = c.are_edges_paired.ensures.0 c.if-not-are_edges_paired.false; self = c.have_self_edges.ensures.0 selves },
  λ paired. c.have_self_edges.ensures.1 paired.self,
)
