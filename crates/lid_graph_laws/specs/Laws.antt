-- What firing counts, walks and tokens have to do with each other, for marked graphs; three of them for paired ones.
use Rattle.std.specs.Prelude.{◌≡◌, ℕ, suc, ◌+◌, ◌-◌, ◌*◌, ◌<◌, ◌≤◌, min, Bool, List, length}
use Rattle.std.specs.Int.{div_ceil}
use Rattle.lid_graph.specs.declared.graph.Graph.{Graph}
use Rattle.lid_graph.specs.Walks.{edge_at, IsPaired, IsWalk, WalksHaveTokens, walk_tokens}
use Rattle.lid_graph.specs.Firings.{Counts, Hold, no_hold, firings, AreFitCaps, IsFirstAtCap}
use Rattle.lid_graph.specs.Ratios.{IsRatio}
use Rattle.lid_graph_laws.specs.Free.{free_firings, NamesHeld, held_below}

-- no count falls
abbrev pub CountsNeverFall : Type 0
CountsNeverFall = (g : Graph) (cap : Counts) (held : Hold) (k v : ℕ) → firings g cap held k v ≤ firings g cap held (suc k) v

-- a transition fires at most once in a cycle
abbrev pub CountsRiseByOne : Type 0
CountsRiseByOne =
    (g : Graph) (cap : Counts) (held : Hold) (k v : ℕ)
    → IsPaired g → v < g.nodes → firings g cap held (suc k) v ≤ firings g cap held k v + 1

-- and never beyond its cap
abbrev pub CountsMeetCaps : Type 0
CountsMeetCaps = (g : Graph) (cap : Counts) (held : Hold) (k v : ℕ) → firings g cap held k v ≤ cap v

-- an edge lets its end come to no more than its beginning had, and its tokens
abbrev pub EdgesAllow : Type 0
EdgesAllow =
    (g : Graph) (cap : Counts) (held : Hold) (k i : ℕ)
    → i < length g.edges → firings g cap held k (edge_at g i).to ≤ firings g cap held k (edge_at g i).from + (edge_at g i).tokens

-- holding never lets a transition fire more often
abbrev pub HoldsDelay : Type 0
HoldsDelay = (g : Graph) (cap : Counts) (held : Hold) (k v : ℕ) → firings g cap held k v ≤ firings g cap no_hold k v

-- and never less often than as many cycles earlier as hold: what is held in cycle j shows in the counts after j + 1 cycles
abbrev pub HoldsDelayByTheirCycles : Type 0
HoldsDelayByTheirCycles =
    (g : Graph) (cap : Counts) (held : Hold) (holds : ℕ → Bool) (k v : ℕ)
    → NamesHeld held holds → firings g cap no_hold (k - held_below holds k) v ≤ firings g cap held k v

-- a walk of k edges that ends at v, with so many tokens
pub record HasWalkOf (g : Graph) (v k tokens : ℕ) : Type 0 where
  pub start : ℕ
  pub edges : List ℕ
  pub leads : IsWalk g start edges v
  pub long : length edges ≡ k
  pub holds : walk_tokens g edges ≡ tokens

-- below its cap a transition is kept back by a walk with an edge for each cycle
abbrev pub WalksKeepBack : Type 0
WalksKeepBack =
    (g : Graph) (cap : Counts) (k v : ℕ)
    → AreFitCaps g cap → firings g cap no_hold k v < cap v → HasWalkOf g v k (firings g cap no_hold k v)

-- no walk that ends at v has more than so many edges for its tokens
abbrev pub BoundsWalks : Graph → ℕ → ℕ → ℕ → ℕ → Type 0
BoundsWalks g p q v lag = (u : ℕ) (ks : List ℕ) → IsWalk g u ks v → p * length ks ≤ lag + q * walk_tokens g ks

-- so a lag at v alone bounds how far v falls behind p/q firings a cycle
abbrev pub LagBoundsFirings : Type 0
LagBoundsFirings =
    (g : Graph) (cap : Counts) (p q v lag k : ℕ)
    → AreFitCaps g cap → BoundsWalks g p q v lag → firings g cap no_hold k v < cap v → p * k ≤ q * firings g cap no_hold k v + lag

-- and the first cycle count after which v is at its cap
abbrev pub LagBoundsCycles : Type 0
LagBoundsCycles =
    (g : Graph) (cap : Counts) (p q v lag : ℕ)
    → AreFitCaps g cap → BoundsWalks g p q v lag → 1 ≤ q → 1 ≤ p
    → (k : ℕ) × IsFirstAtCap g cap no_hold v k × (k ≤ div_ceil (q * cap v + lag) p)

-- where each closed walk has a token, no ratio is 0
abbrev pub TokensMakeRatios : Type 0
TokensMakeRatios = (g : Graph) (v p q : ℕ) → WalksHaveTokens g → IsRatio g v p q → 1 ≤ p

-- and each transition comes to its cap, in a cycle for each transition and each firing
abbrev pub TokensReachCaps : Type 0
TokensReachCaps =
    (g : Graph) (cap : Counts) (k v : ℕ)
    → IsPaired g → AreFitCaps g cap → WalksHaveTokens g → v < g.nodes → g.nodes * cap v ≤ k → firings g cap no_hold k v ≡ cap v

-- numbers that rise along each edge without tokens
abbrev pub RiseWithoutTokens : Graph → (ℕ → ℕ) → Type 0
RiseWithoutTokens g number = (i : ℕ) → i < length g.edges → (edge_at g i).tokens ≡ 0 → number (edge_at g i).from < number (edge_at g i).to

-- such numbers give each closed walk a token
abbrev pub NumbersShowTokens : Type 0
NumbersShowTokens = (g : Graph) (number : ℕ → ℕ) → RiseWithoutTokens g number → WalksHaveTokens g

-- a count with a cap is the lesser of the cap and of the count without one
abbrev pub CapsCutCounts : Type 0
CapsCutCounts =
    (g : Graph) (cap : Counts) (held : Hold) (k v : ℕ)
    → IsPaired g → AreFitCaps g cap → v < g.nodes → firings g cap held k v ≡ min (cap v) (free_firings g held k v)
