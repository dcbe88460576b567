-- Lives: all that a clocked run may depend on. A run is given rows one by one, so it is one of many lives: of
-- each whose rows begin with those that were given, and whose hold is that of the cycles made.
use Rattle.std.specs.Prelude.{◌≡◌, ℕ, ◌+◌, ◌-◌, ◌<◌, ◌==◌, Bool, false, if◌then◌else◌, List, length, Option, Some, None, slice_get}
use Rattle.lid_base.specs.declared.runs.Shown.{Shown}
use Rattle.lid_graph.specs.Firings.{Counts, Hold}
use Rattle.lid_system.specs.declared.System.{System}
use Rattle.lid_system.specs.Streams.{output_row}
use Rattle.lid_stations.specs.declared.placement.Placement.{Placement}
use Rattle.lid_stations.specs.Placements.{links_of}
use Rattle.lid_shell_laws.specs.Setups.{Setup, IsSetup}
use Rattle.lid_shell_laws.specs.Runs.{sink_of, token_of, fired_in}
use Rattle.lid_shell_laws.specs.Views.{shown_at}

-- a setup, and who is held in each cycle
pub record Life : Type 0 where
  pub setup : Setup
  pub hold : Hold

-- the rules of lives are those of their setups
abbrev pub IsLife : Life → Type 0
IsLife l = IsSetup l.setup

-- how often each actor has fired after k cycles
abbrev pub fired_after : Life → ℕ → Counts
fired_after l k = fired_in (links_of l.setup.system) l.setup.placement (length l.setup.input) l.hold k

-- the number of the sink
abbrev pub sink : Life → ℕ
sink l = sink_of (links_of l.setup.system)

-- the source needs a row after k cycles, where g rows were given: it has fired for all rows but the last of
-- these, and is not at its last firing
pub record NeedsRow (l : Life) (k g : ℕ) : Type 0 where
  pub goes_on : fired_after l k 0 + 1 < length l.setup.input
  pub lacks : g ≡ fired_after l k 0 + 1

-- the sink has not yet fired for each row
abbrev pub IsBelow : Life → ℕ → Type 0
IsBelow l k = fired_after l k (sink l) < length l.setup.input

-- what a station shows as cycle k begins
abbrev pub shown_after : Life → ℕ → ℕ → Shown
shown_after l k station = shown_at (links_of l.setup.system) l.setup.placement (length l.setup.input) (fired_after l k) station (token_of l.setup.system l.setup.placement l.setup.table station)

-- cycle k holds the source, the sink, both or neither, and nobody else
abbrev pub Holds : Life → ℕ → Bool → Bool → Type 0
Holds l k source sunk = (v : ℕ) → l.hold k v ≡ (if v == 0 then source else if v == sink l then sunk else false)

-- nobody is held in cycle k
abbrev pub HoldsNobody : Life → ℕ → Type 0
HoldsNobody l k = (v : ℕ) → l.hold k v ≡ false

-- the sink fired in the last of k cycles
abbrev pub HasSunk : Life → ℕ → Type 0
HasSunk l k = (j : ℕ) × (k ≡ j + 1) × (fired_after l k (sink l) ≡ fired_after l j (sink l) + 1)

-- the output row of the last of k cycles, where the sink fired in it
pub record IsLast (l : Life) (k : ℕ) (last : Option (List Bool)) : Type 0 where
  pub some : HasSunk l k → last ≡ Some (output_row l.setup.system l.setup.table (fired_after l k (sink l) - 1))
  pub none : ¬ HasSunk l k → last ≡ None

-- the life of a run that starts with a system, stations, a number of rows and the first of them
pub record StartsSo (l : Life) (s : System) (p : Placement) (rows : ℕ) (first : Option (List Bool)) : Type 0 where
  pub rules : IsLife l
  pub of : l.setup.system ≡ s
  pub stations : l.setup.placement ≡ p
  pub many : length l.setup.input ≡ rows
  pub begins : slice_get l.setup.input 0 ≡ first
