-- Firing counts: how often each transition has fired after so many cycles.
use Rattle.std.specs.Prelude.{◌≡◌, ℕ, zero, suc, ◌+◌, ◌≤◌, ◌<◌, ◌==◌, min, Bool, false, if◌then◌else◌, List, [], ◌∷◌, length}
use Rattle.lid_graph.specs.declared.graph.Edge.{Edge}
use Rattle.lid_graph.specs.declared.graph.Graph.{Graph}
use Rattle.lid_graph.specs.Walks.{edge_at}

-- a number for each transition
abbrev pub Counts : Type 0
Counts = ℕ → ℕ

-- whether a transition is held in a cycle, by the cycle and the transition
abbrev pub Hold : Type 0
Hold = ℕ → ℕ → Bool

-- holds nothing, ever
abbrev pub no_hold : Hold
no_hold k v = false

-- the least of a number and of what the edges into v allow: the count at the edge's beginning plus
-- its tokens
unfoldable pub least_into : List Edge → Counts → ℕ → ℕ → ℕ
least_into [] counts v most = most
least_into (e ∷ es) counts v most =
    if e.to == v then min (counts e.from + e.tokens) (least_into es counts v most) else least_into es counts v most

-- how often v has fired after k cycles. No transition fires beyond its cap. In a cycle in which v is
-- not held it fires as far as its cap and the edges into it allow
unfoldable pub firings : Graph → Counts → Hold → ℕ → Counts
firings g cap held zero v = 0
firings g cap held (suc k) v =
    if held k v then firings g cap held k v else least_into g.edges (firings g cap held k) v (cap v)

-- no edge lets its end fall behind its cap
abbrev pub AreFitCaps : Graph → Counts → Type 0
AreFitCaps g cap = (k : ℕ) → k < length g.edges → cap (edge_at g k).to ≤ cap (edge_at g k).from + (edge_at g k).tokens

-- the first cycle count after which v has fired as often as its cap
pub record IsFirstAtCap (g : Graph) (cap : Counts) (held : Hold) (v k : ℕ) : Type 0 where
  pub reached : firings g cap held k v ≡ cap v
  pub first : (j : ℕ) → firings g cap held j v ≡ cap v → k ≤ j
