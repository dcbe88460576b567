-- That graphs have certificates, and texts of them.
use Rattle.std.specs.Prelude.{ℕ, ◌≤◌, List}
use Rattle.std.specs.List.{All}
use Rattle.lid_graph.specs.declared.graph.Graph.{Graph}
use Rattle.lid_graph.specs.Rateable.{IsRateable}
use Rattle.lid_cert.specs.declared.cert.Cert.{Cert}
use Rattle.lid_cert.specs.Certificates.{Certifies, IsInRange}
use Rattle.lid_cert_text.specs.Printed.{IsPartSmall}
use Rattle.lid_rate.specs.Exact.{IsExactPart}
use Rattle.lid_rate.specs.Rates.{IsShort}
use Rattle.lid_rate_text.specs.Throughput.{IsRateText}
use Rattle.lid_system.specs.declared.System.{System}
use Rattle.lid_system.specs.Systems.{IsWellFormed}
use Rattle.lid_stations.specs.declared.placement.Placement.{Placement}
use Rattle.lid_stations.specs.Placements.{links_of, Fits}
use Rattle.lid_stations.specs.Markings.{marking}

-- a certificate of the graph: it meets the rules, its ratios and lags are those of the graph, its walks meet no
-- transition twice and are short, and all its numbers are in the ranges of a certificate's text
pub record IsFullCertificate (g : Graph) (cert : Cert) : Type 0 where
  pub certifies : Certifies g cert
  pub exact : All (IsExactPart g) cert.parts
  pub short : IsShort g cert
  pub in_range : IsInRange cert
  pub small : All IsPartSmall cert.parts

abbrev pub RateableGraphsHaveCertificates : Type 0
RateableGraphsHaveCertificates = (g : Graph) → IsRateable g → (cert : Cert) × IsFullCertificate g cert

-- no ratio is 0
abbrev pub AreAboveZero : Cert → Type 0
AreAboveZero cert = All (λ part. 1 ≤ part.p) cert.parts

abbrev pub MarkingsHaveCertificates : Type 0
MarkingsHaveCertificates =
    (s : System) (p : Placement)
    → IsWellFormed s → Fits s p → (cert : Cert) × IsFullCertificate (marking (links_of s) p) cert × AreAboveZero cert

-- a text that `rate` may answer
abbrev pub MarkingsHaveRateTexts : Type 0
MarkingsHaveRateTexts =
    (s : System) (p : Placement)
    → IsWellFormed s → Fits s p → (text : List ℕ) × IsRateText (marking (links_of s) p) text
