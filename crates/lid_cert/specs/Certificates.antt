-- What a certificate shows: the rules for its parts, walks, lags, leads, depths and via edges.
use Rattle.std.specs.Prelude.{◌≡◌, ℕ, ◌+◌, ◌-◌, ◌*◌, ◌^◌, ◌<◌, ◌≤◌, ◌==◌, ◌≢◌, nat_le, Bool, true, ◌&&◌, List, [], ◌∷◌, length, map, position, slice_index, slice_index_or, Option, None, is_some, MatchOption}
use Rattle.std.specs.Int.{IsGcd}
use Rattle.std.specs.List.{All, count_by}
use Rattle.std.specs.Option.{option_map_or}
use Rattle.lid_graph.specs.declared.graph.Edge.{Edge}
use Rattle.lid_graph.specs.declared.graph.Graph.{Graph}
use Rattle.lid_graph.specs.Walks.{edge_at, walk_start, walk_tokens, IsClosedWalk}
use Rattle.lid_cert.specs.declared.cert.Part.{Part}
use Rattle.lid_cert.specs.declared.cert.Cert.{Cert}

-- each number is at least `low` and above the one before
abbrev pub rises : ℕ → List ℕ → Bool
rises low [] = true
rises low (x ∷ xs) = nat_le low x && rises (x + 1) xs

abbrev pub ascends : List ℕ → Bool
ascends xs = rises 0 xs

-- where a transition stands in a part
abbrev pub place_in : Part → ℕ → Option ℕ
place_in part v = position (λ n. n == v) part.nodes

-- whether a transition stands in a part
abbrev pub has_node : Part → ℕ → Bool
has_node part v = is_some (place_in part v)

-- what the part says of a transition; 0, or no edge, where the transition is not in the part
abbrev pub lag_of : Part → ℕ → ℕ
lag_of part v = option_map_or (λ i. slice_index part.lag i) (place_in part v) 0

abbrev pub lead_of : Part → ℕ → ℕ
lead_of part v = option_map_or (λ i. slice_index part.lead i) (place_in part v) 0

abbrev pub depth_of : Part → ℕ → ℕ
depth_of part v = option_map_or (λ i. slice_index part.depth i) (place_in part v) 0

abbrev pub via_of : Part → ℕ → Option ℕ
via_of part v = option_map_or (λ i. slice_index_or part.via i None) (place_in part v) None

-- there is one number of each kind for each transition
pub record AreLists (part : Part) : Type 0 where
  pub lag : length part.lag ≡ length part.nodes
  pub lead : length part.lead ≡ length part.nodes
  pub via : length part.via ≡ length part.nodes
  pub depth : length part.depth ≡ length part.nodes

-- an edge begins in the part exactly where it ends in it, and the lag at its end is as large as it asks
pub record IsEdgeMet (part : Part) (e : Edge) : Type 0 where
  pub stays : has_node part e.from ≡ has_node part e.to
  pub lag : has_node part e.to ≡ true → lag_of part e.from + part.p ≤ lag_of part e.to + part.q * e.tokens

-- where the walk starts the depth is 0, there is no via edge, and the lead is at least (q - p)*(L - 1)
-- for a walk of L edges
pub record IsStartMet (part : Part) (start : ℕ) : Type 0 where
  pub inside : has_node part start ≡ true
  pub depth : depth_of part start ≡ 0
  pub via : via_of part start ≡ None
  pub lead : part.q * (length part.cycle - 1) ≤ lead_of part start + part.p * (length part.cycle - 1)

-- a via edge leads from a transition of the part with less depth to v, and the lead at v is as large as
-- it asks
pub record IsVia (g : Graph) (part : Part) (v k : ℕ) : Type 0 where
  pub within : k < length g.edges
  pub ends : (edge_at g k).to ≡ v
  pub begins : has_node part (edge_at g k).from ≡ true
  pub depth : depth_of part (edge_at g k).from < depth_of part v
  pub lead : lead_of part (edge_at g k).from + part.q * (edge_at g k).tokens ≤ lead_of part v

-- a transition other than the start has a via edge
abbrev pub IsNodeMet : Graph → Part → ℕ → ℕ → Type 0
IsNodeMet g part start v = v ≢ start → MatchOption (via_of part v) ⊥ (IsVia g part v)

-- the rules for one part but those for edges
pub record IsPartInside (g : Graph) (part : Part) : Type 0 where
  pub some : 1 ≤ length part.nodes
  pub lists : AreLists part
  pub ascending : ascends part.nodes ≡ true
  pub within : All (λ v. v < g.nodes) part.nodes
  pub positive : 1 ≤ part.q
  pub lowest : IsGcd part.p part.q 1
  pub walk : IsClosedWalk g part.cycle
  pub ratio : walk_tokens g part.cycle * part.q ≡ part.p * length part.cycle
  pub start : IsStartMet part (walk_start g part.cycle)
  pub nodes : All (IsNodeMet g part (walk_start g part.cycle)) part.nodes

-- the rules for one part
pub record IsPart (g : Graph) (part : Part) : Type 0 where
  pub inside : IsPartInside g part
  pub edges : All (IsEdgeMet part) g.edges

-- the least transition of a part whose transitions ascend
abbrev pub least_node : Part → ℕ
least_node part = slice_index part.nodes 0

-- how many parts a transition stands in
abbrev pub parts_with : Cert → ℕ → ℕ
parts_with cert v = count_by (λ part. has_node part v) cert.parts

-- the certificate shows the ratio of each component of the graph
pub record Certifies (g : Graph) (cert : Cert) : Type 0 where
  pub some : 1 ≤ length cert.parts
  pub parts : All (IsPart g) cert.parts
  pub once : (v : ℕ) → v < g.nodes → parts_with cert v ≡ 1
  pub ascending : ascends (map least_node cert.parts) ≡ true

-- p and q lie below 2^31, lags and leads below 2^62
pub record IsPartInRange (part : Part) : Type 0 where
  pub p : part.p < 2 ^ 31
  pub q : part.q < 2 ^ 31
  pub lag : All (λ n. n < 2 ^ 62) part.lag
  pub lead : All (λ n. n < 2 ^ 62) part.lead

abbrev pub IsInRange : Cert → Type 0
IsInRange cert = All IsPartInRange cert.parts

-- what stands past the last part
abbrev pub no_part : Part
no_part = record { nodes = []; p = 0; q = 0; cycle = []; lag = []; lead = []; via = []; depth = [] }

abbrev pub part_at : List Part → ℕ → Part
part_at parts number = slice_index_or parts number no_part
