-- Firing counts of transitions that have no cap, and how many cycles hold something.
use Rattle.std.specs.Prelude.{◌≡◌, ℕ, zero, suc, ◌+◌, Bool, true, if◌then◌else◌}
use Rattle.lid_graph.specs.declared.graph.Graph.{Graph}
use Rattle.lid_graph.specs.Firings.{Counts, Hold, least_into}

-- how often v has fired after k cycles, where no transition has a cap. In a cycle in which v is not
-- held it fires once, or as far as the edges into it allow
unfoldable pub free_firings : Graph → Hold → ℕ → Counts
free_firings g held zero v = 0
free_firings g held (suc k) v =
    if held k v then free_firings g held k v else least_into g.edges (free_firings g held k) v (free_firings g held k v + 1)

-- whoever is held in a cycle, the cycle is named as one that holds
abbrev pub NamesHeld : Hold → (ℕ → Bool) → Type 0
NamesHeld held holds = (k v : ℕ) → held k v ≡ true → holds k ≡ true

-- how many of the first k cycles hold
unfoldable pub held_below : (ℕ → Bool) → ℕ → ℕ
held_below holds zero = 0
held_below holds (suc k) = held_below holds k + (if holds k then 1 else 0)
