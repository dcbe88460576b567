-- Clocked runs that stalls hold.
use Rattle.std.specs.Prelude.{◌≡◌, ℕ, ◌+◌, ◌<◌, ◌≤◌, Bool, ◌||◌, List, length}
use Rattle.lid_graph.specs.Firings.{no_hold, IsFirstAtCap}
use Rattle.lid_graph_laws.specs.Free.{held_below}
use Rattle.lid_stations.specs.Placements.{links_of}
use Rattle.lid_stations.specs.Markings.{marking}
use Rattle.lid_shell_laws.specs.Runs.{cap_of, IsWithinLag}
use Rattle.lid_clock_laws.specs.Bounds.{HasBound}
use Rattle.lid_clock.specs.Lives.{Life, IsBelow, fired_after, sink}
use Rattle.lid_clock.specs.Ran.{Ran}
use Rattle.lid_stall_text.specs.declared.stalls.Stall.{Stall}
use Rattle.lid_stall.specs.declared.held.Held.{Held}
use Rattle.lid_stall_text.specs.Holds.{stall_hold, Ascend}
use Rattle.lid_stall.specs.Places.{Divides}

-- a life in which the source and the sink are held as stalls say
abbrev pub IsHeldBy : Life → List Stall → Type 0
IsHeldBy l stalls = (k v : ℕ) → l.hold k v ≡ stall_hold stalls (sink l) k v

-- whether a cycle holds the source or the sink
abbrev pub holds_one : Life → ℕ → Bool
holds_one l k = l.hold k 0 || l.hold k (sink l)

-- how many of the first k cycles do
abbrev pub stalled_after : Life → ℕ → ℕ
stalled_after l k = held_below (holds_one l) k

-- a run is over after so many cycles: the sink has fired for each row. It takes at least the cycles after which
-- it is over where nobody is held, which are within the bound, which there is, and more only for cycles that hold somebody
pub record IsOverBy (l : Life) (made : ℕ) : Type 0 where
  pub all : fired_after l made (sink l) ≡ length l.setup.input
  pub cycles : ℕ
  pub ends : IsFirstAtCap (marking (links_of l.setup.system) l.setup.placement) (cap_of (links_of l.setup.system) (length l.setup.input)) no_hold (sink l) cycles
  pub within : IsWithinLag (links_of l.setup.system) l.setup.placement (length l.setup.input) cycles
  pub bound : HasBound (links_of l.setup.system) l.setup.placement (length l.setup.input) cycles
  pub least : cycles ≤ made
  pub most : made ≤ cycles + stalled_after l made

-- a run that stalls hold, after k cycles and g given rows of a life; each of the cycles was needed
pub record RanHeld (l : Life) (k g : ℕ) (h : Held) : Type 0 where
  pub ran : Ran l k g h.stream
  pub by : IsHeldBy l h.stalls
  pub ascend : Ascend h.stalls
  pub at : Divides h.stalls h.next k
  pub made_is : h.made ≡ k
  pub stalled_is : h.stalled ≡ stalled_after l k
  pub few : h.stalled ≤ h.next
  pub needed : (j : ℕ) → j < k → IsBelow l j
