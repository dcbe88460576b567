use Rattle.lid_cert.proofs.checking.is_part.Goals as goal

pub returns-then-is_part_inside : goal.returns-then-is_part_inside
returns-then-is_part_inside c = (
  λ edges. record { inside = c.is_part_inside.ensures.0 c.if-is_part_inside.true; edges = c.are_edges_met.ensures.0 edges },
  λ meets. c.are_edges_met.ensures.1 meets.edges,
)
