-- What the part of a certificate tells of its component, exactly.
use Rattle.std.specs.Prelude.{◌≡◌, ℕ, true}
use Rattle.lid_graph.specs.declared.graph.Graph.{Graph}
use Rattle.lid_graph.specs.Ratios.{IsRatio, IsLag}
use Rattle.lid_cert.specs.declared.cert.Part.{Part}
use Rattle.lid_cert.specs.Certificates.{has_node, lag_of, IsPartInRange}
use Rattle.lid_rate_ratio.specs.Once.{MeetsOnce}

-- p/q is the ratio of the component, each lag is the number that it bounds, the walk meets no
-- transition twice, and all numbers are in the ranges of a certificate's text
pub record IsExactPart (g : Graph) (part : Part) : Type 0 where
  pub ratio : (v : ℕ) → has_node part v ≡ true → IsRatio g v part.p part.q
  pub lag : (v : ℕ) → has_node part v ≡ true → IsLag g part.p part.q v (lag_of part v)
  pub once : MeetsOnce g part.cycle
  pub in_range : IsPartInRange part
