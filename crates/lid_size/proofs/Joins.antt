-- The transitions of one part of a certificate are joined, and the least is one of them.
use Rattle.std.proofs.Common.{◌≡◌, ℕ, ◌<◌, true, is_some, refl, ap, arith}
use Rattle.lid_graph.specs.declared.graph.Graph.{Graph}
use Rattle.lid_graph.specs.Walks.{walk_start, IsPaired, IsJoined}
use Rattle.lid_graph.proofs.Journeys.{joined_step}
use Rattle.lid_cert.specs.declared.cert.Part.{Part}
use Rattle.lid_cert.specs.Certificates.{has_node, least_node, IsPart}
use Rattle.lid_cert.proofs.Ascending.{place_found}
use Rattle.lid_cert.proofs.Consequences.{joined_from_start, cycle_near}

module _ (g : Graph) (part : Part) (meets : IsPart g part) where
  pub joined_inside : IsPaired g → (u v : ℕ) → has_node part u ≡ true → has_node part v ≡ true → IsJoined g u v
  joined_inside paired u v has_u has_v =
      joined_step g u (walk_start g part.cycle) v (cycle_near g part meets paired u has_u).1 (joined_from_start g part meets v has_v)

  pub least_inside : has_node part (least_node part) ≡ true
  least_inside = ap is_some (place_found part.nodes (least_node part) 0 meets.inside.ascending (let s = meets.inside.some in omega arith) refl)

  pub least_within : least_node part < g.nodes
  least_within = meets.inside.within 0 0 (let s = meets.inside.some in omega arith)
