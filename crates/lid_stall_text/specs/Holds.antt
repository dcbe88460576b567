-- Whom stalls hold: the source and the sink, each in the cycles that the stalls name; and in how many cycles they
-- hold somebody.
use Rattle.std.specs.Prelude.{◌≡◌, ℕ, ◌<◌, ◌==◌, Bool, false, ◌&&◌, ◌||◌, if◌then◌else◌, List, [], ◌∷◌, Option, Some, None, codes, slice_get}
use Rattle.std.specs.Fmt.{decimal}
use Rattle.std.specs.List.{list_any}
use Rattle.lid_graph.specs.Firings.{Hold, no_hold}
use Rattle.lid_graph_laws.specs.Free.{held_below}
use Rattle.lid_base_lines.specs.Texts.{line_text}
use Rattle.lid_stall_text.specs.declared.stalls.Stall.{Stall}

-- whether some stall holds the source in a cycle, and whether some stall holds the sink
abbrev pub holds_source : List Stall → ℕ → Bool
holds_source stalls k = list_any (λ stall. (stall.cycle == k) && stall.source) stalls

abbrev pub holds_sink : List Stall → ℕ → Bool
holds_sink stalls k = list_any (λ stall. (stall.cycle == k) && stall.sink) stalls

-- the hold of stalls in a run whose sink has this number: nobody but the source and the sink is held
abbrev pub stall_hold : List Stall → ℕ → Hold
stall_hold stalls sunk k v = if v == 0 then holds_source stalls k else if v == sunk then holds_sink stalls k else false

-- in how many of the first k cycles stalls hold somebody
abbrev pub stalled_by : List Stall → ℕ → ℕ
stalled_by stalls k = held_below (λ j. holds_source stalls j || holds_sink stalls j) k

-- the stalls, where some may be given
abbrev pub listed : Option (List Stall) → List Stall
listed None = []
listed (Some stalls) = stalls

-- nobody is held where none are given
abbrev pub hold_of : Option (List Stall) → ℕ → Hold
hold_of None sunk = no_hold
hold_of (Some stalls) sunk = stall_hold stalls sunk

abbrev pub stalled_of : Option (List Stall) → ℕ → ℕ
stalled_of None k = 0
stalled_of (Some stalls) k = stalled_by stalls k

-- the line that tells in how many of the first k cycles somebody was held, where stalls are given
abbrev pub stalled_line : Option (List Stall) → ℕ → List ℕ
stalled_line None k = []
stalled_line (Some stalls) k = line_text (codes "stalled" ∷ decimal (stalled_by stalls k) ∷ [])

-- the cycles of stalls ascend
abbrev pub Ascend : List Stall → Type 0
Ascend stalls = (i j : ℕ) (one other : Stall) → i < j → slice_get stalls i ≡ Some one → slice_get stalls j ≡ Some other → one.cycle < other.cycle
