-- The text of a clocked run: its output rows, how many cycles it made and how often each node fired, in how many of
-- them somebody was held, and what the stations showed in the first cycles.
use Rattle.std.specs.Prelude.{◌≡◌, ℕ, ◌-◌, min, Bool, List, [], ◌++◌, length, Option, None, Some}
use Rattle.std.specs.List.{flat_map}
use Rattle.lid_base.specs.declared.runs.Shown.{Shown}
use Rattle.lid_base.specs.Each.{from_each}
use Rattle.lid_graph.specs.Firings.{IsFirstAtCap}
use Rattle.lid_system.specs.declared.System.{System}
use Rattle.lid_system.specs.Streams.{output_row}
use Rattle.lid_stations.specs.declared.placement.Placement.{Placement}
use Rattle.lid_stations.specs.Placements.{links_of, station_count}
use Rattle.lid_stations.specs.Markings.{marking}
use Rattle.lid_shell_laws.specs.Runs.{cap_of, IsWithinLag}
use Rattle.lid_clock_laws.specs.Bounds.{HasBound}
use Rattle.lid_clock.specs.Lives.{Life, IsLife, fired_after, shown_after, sink}
use Rattle.lid_texts.specs.RowsText.{rows_text}
use Rattle.lid_texts_runs.specs.Runs.{cycles_text, trace_text}
use Rattle.lid_stall_text.specs.declared.stalls.Stall.{Stall}
use Rattle.lid_stall_text.specs.Holds.{hold_of, stalled_of, stalled_line}

-- a life of a system with its stations in which the source and the sink are held as stalls say, and nobody where none
-- are given
pub record IsLifeOf (l : Life) (s : System) (p : Placement) (stalls : Option (List Stall)) : Type 0 where
  pub rules : IsLife l
  pub of : l.setup.system ≡ s
  pub stations : l.setup.placement ≡ p
  pub held : l.hold ≡ hold_of stalls (sink l)

-- what the stations show as cycle k begins, in order
abbrev pub life_cells : Life → ℕ → List Shown
life_cells l k = from_each (shown_after l k) 0 (station_count l.setup.placement.relays)

-- what they show in the first k cycles
abbrev pub cells_after : Life → ℕ → List Shown
cells_after l k = flat_map (life_cells l) (from_each (λ j. j) 0 k)

-- how often each node has fired after k cycles
abbrev pub nodes_fired : Life → ℕ → List ℕ
nodes_fired l k = from_each (fired_after l k) 0 (length l.setup.system.nodes)

-- the first n output rows
abbrev pub first_outputs : Life → ℕ → List (List Bool)
first_outputs l n = from_each (output_row l.setup.system l.setup.table) 0 n

-- how many of k cycles a trace has, where it is to have at most so many
abbrev pub cycles_traced : Option ℕ → ℕ → ℕ
cycles_traced None k = 0
cycles_traced (Some most) k = min most k

-- the trace, where one is wanted
abbrev pub traced : Life → Option ℕ → ℕ → List ℕ
traced l None k = []
traced l (Some most) k = trace_text (record { stations = station_count l.setup.placement.relays; cycles = min most k; cells = cells_after l (min most k) })

-- how the text ends, after the rows
abbrev pub end_text : Life → Option (List Stall) → Option ℕ → ℕ → List ℕ
end_text l stalls trace k = cycles_text k (nodes_fired l k) ++ (stalled_line stalls k ++ traced l trace k)

-- the text of the run of a life: all output rows, and what the cycles told up to the first after which the sink
-- has fired for each row. These, less those that held somebody, are within the bound, which there is
pub record IsRunText (l : Life) (columns : List (List ℕ)) (stalls : Option (List Stall)) (trace : Option ℕ) (text : List ℕ) : Type 0 where
  pub cycles : ℕ
  pub ends : IsFirstAtCap (marking (links_of l.setup.system) l.setup.placement) (cap_of (links_of l.setup.system) (length l.setup.input)) l.hold (sink l) cycles
  pub within : IsWithinLag (links_of l.setup.system) l.setup.placement (length l.setup.input) (cycles - stalled_of stalls cycles)
  pub bound : HasBound (links_of l.setup.system) l.setup.placement (length l.setup.input) (cycles - stalled_of stalls cycles)
  pub written : text ≡ rows_text columns (first_outputs l (length l.setup.input)) ++ end_text l stalls trace cycles
