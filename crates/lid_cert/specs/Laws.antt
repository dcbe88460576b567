-- What follows from a certificate, for the graph and its firing counts.
use Rattle.std.specs.Prelude.{◌≡◌, ℕ, ◌+◌, ◌*◌, ◌<◌, ◌≤◌, List, length, true}
use Rattle.std.specs.Int.{div_ceil}
use Rattle.std.specs.List.{Contains}
use Rattle.lid_graph.specs.declared.graph.Graph.{Graph}
use Rattle.lid_graph.specs.Walks.{IsPaired, IsWalk, IsClosedWalk, walk_start, walk_tokens}
use Rattle.lid_graph.specs.Firings.{Counts, no_hold, firings, AreFitCaps, IsFirstAtCap}
use Rattle.lid_graph.specs.Ratios.{IsRatio}
use Rattle.lid_cert.specs.declared.cert.Part.{Part}
use Rattle.lid_cert.specs.declared.cert.Cert.{Cert}
use Rattle.lid_cert.specs.Certificates.{Certifies, has_node, lag_of, lead_of}

-- the certificate certifies the paired graph, and the transition stands in this part of it
pub record ShowsTransition (g : Graph) (cert : Cert) (part : Part) (v : ℕ) : Type 0 where
  pub paired : IsPaired g
  pub certifies : Certifies g cert
  pub stands : Contains cert.parts part
  pub inside : has_node part v ≡ true

-- each transition of a graph that is certified stands in a part
abbrev pub EachIsShown : Type 0
EachIsShown = (g : Graph) (cert : Cert) (v : ℕ) → IsPaired g → Certifies g cert → v < g.nodes → (part : Part) × ShowsTransition g cert part v

-- each closed walk of a part has at least p tokens for q edges
abbrev pub WalksMeetRatio : Type 0
WalksMeetRatio =
    (g : Graph) (cert : Cert) (part : Part) (ks : List ℕ)
    → ShowsTransition g cert part (walk_start g ks)
    → IsClosedWalk g ks
    → part.p * length ks ≤ walk_tokens g ks * part.q

-- p/q is the ratio of the component
abbrev pub RatioIsShown : Type 0
RatioIsShown = (g : Graph) (cert : Cert) (part : Part) (v : ℕ) → ShowsTransition g cert part v → IsRatio g v part.p part.q

-- a lag is no less than p*edges - q*tokens of any walk that ends at the transition
abbrev pub LagsAreShown : Type 0
LagsAreShown =
    (g : Graph) (cert : Cert) (part : Part) (v u : ℕ) (ks : List ℕ)
    → ShowsTransition g cert part v
    → IsWalk g u ks v
    → part.p * length ks ≤ lag_of part v + part.q * walk_tokens g ks

-- no transition is ahead of p/q firings a cycle by more than its lead
abbrev pub LeadsBoundFirings : Type 0
LeadsBoundFirings =
    (g : Graph) (cert : Cert) (part : Part) (v : ℕ) (cap : Counts) (k : ℕ)
    → ShowsTransition g cert part v
    → AreFitCaps g cap
    → part.q * firings g cap no_hold k v ≤ part.p * k + lead_of part v

-- no transition below its cap is behind p/q firings a cycle by more than its lag
abbrev pub LagsBoundFirings : Type 0
LagsBoundFirings =
    (g : Graph) (cert : Cert) (part : Part) (v : ℕ) (cap : Counts) (k : ℕ)
    → ShowsTransition g cert part v
    → AreFitCaps g cap
    → firings g cap no_hold k v < cap v
    → part.p * k ≤ part.q * firings g cap no_hold k v + lag_of part v

-- where p is not 0, each transition comes to its cap, and first after no more than (q*cap + lag)/p
-- cycles, rounded up
abbrev pub CapsAreReached : Type 0
CapsAreReached =
    (g : Graph) (cert : Cert) (part : Part) (v : ℕ) (cap : Counts)
    → ShowsTransition g cert part v
    → AreFitCaps g cap
    → 0 < part.p
    → (k : ℕ) × IsFirstAtCap g cap no_hold v k × (k ≤ div_ceil (part.q * cap v + lag_of part v) part.p)
