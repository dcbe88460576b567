-- What `clock` knows of the rows that it has read once and does not hold. This serves the functions that run it.
use Rattle.std.specs.Prelude.{◌≡◌, ℕ, ◌≤◌, Bool, List, length, Option}
use Rattle.std.specs.List.{AllByRecursion}
use Rattle.lid_design.specs.declared.Design.{Design}
use Rattle.lid_design.specs.Columns.{root_inputs}
use Rattle.lid_stall_text.specs.declared.stalls.Stall.{Stall}
use Rattle.lid_stations.specs.Placements.{links_of}
use Rattle.lid_top_script.specs.Wrapped.{Wrapping}
use Rattle.lid_top_script.specs.Scripts.{Script, rows_limit, vec_reading, rerun_script, traced_script, vec_script, stalled_script, clock_script}
use Rattle.lid_top_script.specs.Causes.{Got}
use Rattle.lid_top_clock.specs.declared.asked.Asked.{Asked}

-- the script of what is asked for
abbrev pub asked_script : Asked → Script
asked_script a = clock_script a.files.net.now a.vec.now a.files.stations.now a.stalls.now a.trace a.files.root.now

-- what is left of it once the stations are read, then the stalls, then the rows, and once the trace is judged
abbrev pub after_stations : Asked → Wrapping → Script
after_stations a w = stalled_script w.design (links_of w.system) w.placement a.vec.now a.stalls.now a.trace

abbrev pub after_stalls : Asked → Wrapping → Option (List Stall) → Script
after_stalls a w stalls = vec_script w.design (links_of w.system) w.placement a.vec.now stalls a.trace

abbrev pub after_rows : Asked → Wrapping → Option (List Stall) → List (List Bool) → Script
after_rows a w stalls rows = traced_script w.design (links_of w.system) w.placement a.vec.now stalls a.trace rows

abbrev pub after_trace : Asked → Wrapping → Option (List Stall) → List (List Bool) → Script
after_trace a w stalls rows = rerun_script w.design (links_of w.system) w.placement a.vec.now stalls a.trace rows

-- the file has these rows, of which so many were counted
abbrev pub IsCounted : (List ℕ → Option (List ℕ)) → Asked → Wrapping → ℕ → List (List Bool) → Type 0
IsCounted held a w count rows = Got held a.vec.now rows_limit (vec_reading w.design) rows × (count ≡ length rows)

-- the file has so many rows for the inputs of the design
pub record FileHasRows (held : List ℕ → Option (List ℕ)) (d : Design) (vec : List ℕ) (count : ℕ) : Type 0 where
  pub rows : List (List Bool)
  pub got : Got held vec rows_limit (vec_reading d) rows
  pub many : count ≡ length rows
  pub wide : AllByRecursion (λ row. length row ≡ length (root_inputs d)) rows
  pub few : count ≤ 1000000
