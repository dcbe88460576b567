-- The trace of a clocked run in which nobody is held back.
use Rattle.std.specs.Prelude.{◌≡◌, ℕ, ◌<◌, ◌≤◌, Bool, List}
use Rattle.std.specs.List.{flat_map}
use Rattle.lid_base.specs.declared.runs.Shown.{Shown}
use Rattle.lid_base.specs.Each.{from_each}
use Rattle.lid_stations.specs.Placements.{station_count}
use Rattle.lid_texts_runs.specs.declared.trace.Trace.{Trace}
use Rattle.lid_clock.specs.Lives.{Life, IsBelow, shown_after}
use Rattle.lid_clock.specs.Clocks.{IsFreeLife}
use Rattle.lid_clock_flat.specs.declared.rows.FlatRows.{FlatRows}
use Rattle.lid_clock_flat.specs.Feeds.{Feeds}
use Rattle.lid_top_script.specs.Wrapped.{Wrapping}

-- a life in which nobody is held, of a system with its stations for these rows
abbrev pub IsLifeFor : Wrapping → List (List Bool) → Life → Type 0
IsLifeFor w rows l = IsFreeLife l rows × (l.setup.system ≡ w.system) × (l.setup.placement ≡ w.placement)

-- there is one
abbrev pub HasFreeLife : Wrapping → List (List Bool) → Type 0
HasFreeLife w rows = (l : Life) × IsLifeFor w rows l

-- what the stations show as cycle k begins, in order
abbrev pub life_cells : Life → ℕ → List Shown
life_cells l k = from_each (shown_after l k) 0 (station_count l.setup.placement.relays)

-- what they show in the first k cycles
abbrev pub cells_before : Life → ℕ → List Shown
cells_before l k = flat_map (life_cells l) (from_each (λ j. j) 0 k)

-- a run of k cycles, each of which was needed, and what the stations showed in them
pub record HasTraced (l : Life) (k : ℕ) (c : FlatRows) (cells : List Shown) : Type 0 where
  pub ran : Feeds l k c
  pub needed : (j : ℕ) → j < k → IsBelow l j
  pub shown : cells ≡ cells_before l k

-- a run that begins, and how many stations it has
pub record TraceBegins (l : Life) (stations : ℕ) (c : FlatRows) : Type 0 where
  pub ran : Feeds l 0 c
  pub all : stations ≡ station_count l.setup.placement.relays

-- the trace of a run, of so many cycles or as far as the run has them: all cycles before the last one are needed,
-- and no further one is where the trace has fewer
pub record IsTraceOf (l : Life) (most : ℕ) (t : Trace) : Type 0 where
  pub all : t.stations ≡ station_count l.setup.placement.relays
  pub few : t.cycles ≤ most
  pub needed : (j : ℕ) → j < t.cycles → IsBelow l j
  pub ended : t.cycles < most → ¬ IsBelow l t.cycles
  pub shown : t.cells ≡ cells_before l t.cycles

-- the trace of each of these lives
abbrev pub IsTraceOfAll : Wrapping → List (List Bool) → ℕ → Trace → Type 0
IsTraceOfAll w rows most t = (l : Life) → IsLifeFor w rows l → IsTraceOf l most t
