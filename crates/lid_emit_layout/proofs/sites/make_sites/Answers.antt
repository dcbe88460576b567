-- The marking has two edges for each station.
use Rattle.std.proofs.Common.{sym, subst, arith}
use Rattle.lid_stations.proofs.Edges.{edges_long}
use Rattle.lid_emit_layout.specs.Sites.{HasEdges}
use Rattle.lid_emit_layout.proofs.sites.make_sites.Goals as goal

pub push_all-requires-clause-edges : goal.push_all-requires-clause-edges
push_all-requires-clause-edges c =
    let p = c.placed.inside.placement.now in
    subst (λ g. HasEdges p g) (sym c.in_ok-graph.ensures.is) (record { rules = c.placed.invariant.fits.rules; edges = omega (arith, edges_long c.placed.inside.system.now p) })
