-- For the search: the parts of a certificate, compared with the forward ratios of their components.
use Rattle.std.specs.Prelude.{ℕ, ◌*◌, ◌<◌, ◌≤◌, List, length, slice_index_or}
use Rattle.lid_graph.specs.declared.graph.Graph.{Graph}
use Rattle.lid_graph.specs.Rateable.{IsRateable}
use Rattle.lid_cert.specs.declared.cert.Part.{Part}
use Rattle.lid_cert.specs.declared.cert.Cert.{Cert}
use Rattle.lid_cert.specs.Certificates.{least_node, Certifies, IsInRange, part_at}
use Rattle.lid_rate_ratio.specs.declared.lowest_terms.Ratio.{Ratio}
use Rattle.lid_rate.specs.Rates.{IsShort}
use Rattle.lid_stations.specs.Placed.{Placing, links_in}
use Rattle.lid_stations.specs.Placements.{station_count}
use Rattle.lid_size_forward.specs.ForwardParts.{AreForwardRatios, no_ratio}
use Rattle.lid_size.specs.Sizing.{sized, Reaches}

-- the ratio of the part is not below this one
abbrev pub IsRatioKept : Ratio → Part → Type 0
IsRatioKept want part = want.p * part.q ≤ part.p * want.q

-- the forward ratio of the least transition of a part
abbrev pub want_of : List Ratio → Part → Ratio
want_of wants part = slice_index_or wants (least_node part) no_ratio

-- the first parts have ratios that are not below their forward ratios
abbrev pub AreAllKept : List Ratio → List Part → ℕ → Type 0
AreAllKept wants parts count = (i : ℕ) → i < count → IsRatioKept (want_of wants (part_at parts i)) (part_at parts i)

-- the first part whose ratio is below its forward ratio
pub record IsFirstLow (wants : List Ratio) (parts : List Part) (i : ℕ) : Type 0 where
  pub within : i < length parts
  pub earlier : AreAllKept wants parts i
  pub low : IsRatioKept (want_of wants (part_at parts i)) (part_at parts i) → ⊥

-- a certificate of a graph and its forward ratios
pub record AreCompared (g : Graph) (n : ℕ) (cert : Cert) (wants : List Ratio) : Type 0 where
  pub rateable : IsRateable g
  pub certifies : Certifies g cert
  pub in_range : IsInRange cert
  pub short : IsShort g cert
  pub ratios : AreForwardRatios g n wants

-- the forward ratios of a placed system
abbrev pub AreWants : Placing → List Ratio → Type 0
AreWants placed wants = AreForwardRatios (sized (links_in placed) placed.placement.relays placed.placement.caps) (station_count placed.placement.relays) wants

-- it reaches with these capacities in place of its own
abbrev pub ReachesWith : Placing → List ℕ → Type 0
ReachesWith placed caps = Reaches (links_in placed) placed.placement.relays caps
