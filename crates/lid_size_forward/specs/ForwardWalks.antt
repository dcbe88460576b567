-- For the test of forward ratios: closed walks that have them, and labels that show that none is lower.
use Rattle.std.specs.Prelude.{◌≡◌, ℕ, zero, suc, ◌+◌, ◌-◌, ◌*◌, ◌^◌, ◌<◌, ◌≤◌, nat_le, ◌&&◌, if◌then◌else◌, List, [], length, take, drop, slice_index, slice_index_or}
use Rattle.std.specs.List.{All}
use Rattle.std.specs.Int.{IsGcd}
use Rattle.lid_graph.specs.declared.graph.Graph.{Graph}
use Rattle.lid_graph.specs.Walks.{edge_at, walk_start, walk_tokens, IsClosedWalk}
use Rattle.lid_rate_ratio.specs.declared.lowest_terms.Ratio.{Ratio}
use Rattle.lid_size_laws.specs.Capacities.{IsForward, IsForwardWalkNear}
use Rattle.lid_size_guess.specs.declared.forwards.Forwards.{Forwards}
use Rattle.lid_size_forward.specs.ForwardParts.{no_ratio}

-- a closed forward walk of the component of v has this ratio, which is in lowest terms
pub record HasForwardWalk (g : Graph) (n v : ℕ) (r : Ratio) : Type 0 where
  pub positive : 1 ≤ r.q
  pub lowest : IsGcd r.p r.q 1
  pub some : (ks : List ℕ) × IsForwardWalkNear g n v ks × (r.q * walk_tokens g ks ≡ r.p * length ks)
  pub small_p : r.p ≤ 2 ^ 22
  pub small_q : r.q ≤ 2 ^ 18

-- the first transitions have the ratios of such walks, and each that of the least of its component
pub record AreWalksBelow (g : Graph) (n : ℕ) (least : List ℕ) (most : ℕ) (wants : List Ratio) : Type 0 where
  pub count : length wants ≡ most
  pub each : (v : ℕ) → v < most → HasForwardWalk g n v (slice_index_or wants v no_ratio)
  pub same : (v : ℕ) → v < most → slice_index_or wants v no_ratio ≡ slice_index_or wants (slice_index least v) no_ratio

-- along an edge the label at the end is as large as it asks
abbrev pub IsForwardMet : Graph → List Ratio → List ℕ → ℕ → Type 0
IsForwardMet g wants labels k =
    slice_index labels (edge_at g k).from + (slice_index_or wants (edge_at g k).from no_ratio).p
    ≤ slice_index labels (edge_at g k).to + (slice_index_or wants (edge_at g k).from no_ratio).q * (edge_at g k).tokens

-- so it is along each forward edge
abbrev pub MeetForwardRule : Graph → ℕ → List Ratio → List ℕ → Type 0
MeetForwardRule g n wants labels = (k : ℕ) → k < length g.edges → IsForward n k → IsForwardMet g wants labels k

-- where one of some walks that stand one after the other begins: where the one before ends
abbrev pub walk_begin : List ℕ → ℕ → ℕ
walk_begin ends zero = 0
walk_begin ends (suc at) = slice_index_or ends at 0

-- one of them, or none where the ends are wrong
abbrev pub walk_in : List ℕ → List ℕ → ℕ → List ℕ
walk_in walks ends at =
    if nat_le (walk_begin ends at) (slice_index_or ends at 0) && nat_le (slice_index_or ends at 0) (length walks)
    then take (slice_index_or ends at 0 - walk_begin ends at) (drop (walk_begin ends at) walks) else []

-- a short closed forward walk of the component whose least transition is this
pub record IsForwardWalkAt (g : Graph) (n : ℕ) (least : List ℕ) (label : ℕ) (walk : List ℕ) : Type 0 where
  pub short : length walk ≤ 262144
  pub closed : IsClosedWalk g walk
  pub forward : All (IsForward n) walk
  pub at : slice_index least (walk_start g walk) ≡ label

-- a guess has such a walk for each component
abbrev pub HasForwardWalks : Graph → ℕ → List ℕ → List ℕ → List ℕ → Type 0
HasForwardWalks g n least walks ends = (v : ℕ) → v < g.nodes → slice_index least v ≡ v → IsForwardWalkAt g n least v (walk_in walks ends v)

-- and labels that show that no ratio of these walks is too great
pub record ShowsRatios (g : Graph) (n : ℕ) (least : List ℕ) (forwards : Forwards) : Type 0 where
  pub many : length forwards.labels ≡ g.nodes
  pub walks : HasForwardWalks g n least forwards.walks forwards.ends
  pub met : (wants : List Ratio) → AreWalksBelow g n least g.nodes wants → MeetForwardRule g n wants forwards.labels
