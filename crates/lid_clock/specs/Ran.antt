-- Runs: which streams stand for a life after so many cycles and given rows, and what the calls on them ask.
use Rattle.std.specs.Prelude.{◌≡◌, ℕ, ◌<◌, ◌≤◌, Bool, List, length, Option, Some, None, option_map, slice_get}
use Rattle.std.specs.Borrow.{Bor}
use Rattle.lid_system.specs.declared.System.{System}
use Rattle.lid_clock.specs.declared.actor.ClockActor.{ClockActor}
use Rattle.lid_clock.specs.declared.stream.ClockStream.{ClockStream}
use Rattle.lid_clock.specs.Lives.{Life, IsLife, NeedsRow, sink}
use Rattle.lid_shell_laws.specs.Setups.{IsInputRow}
use Rattle.lid_clock.specs.States.{AreActors, AreStations, IsLatest}

-- a run after k cycles and g given rows of a life
pub record Ran (l : Life) (k g : ℕ) (x : ClockStream) : Type 0 where
  pub rules : IsLife l
  pub rows_are : x.rows ≡ length l.setup.input
  pub given_is : x.given ≡ g
  pub few : g ≤ length l.setup.input
  pub sink_is : x.sink ≡ sink l
  pub all_actors : AreActors l k g x.actors.items
  pub all_stations : AreStations l k x.stations.items
  pub latest : (a : ClockActor) → slice_get x.actors.items (sink l) ≡ Some a → IsLatest l k a

-- the row behind a reference
abbrev pub lent : Option (Bor (List Bool)) → Option (List Bool)
lent = option_map (λ row. row.now)

-- the first of so many rows: there is none where there are no rows, and else it has the width of the source
abbrev pub IsFirstRow : System → ℕ → Option (List Bool) → Type 0
IsFirstRow s rows None = rows ≡ 0
IsFirstRow s rows (Some row) = (0 < rows) × IsInputRow s row

-- a run that can be given a row: it is one of a life in which a row of this width is wanting
abbrev pub CanGive : ClockStream → List Bool → Type 0
CanGive x row = (l : Life) × (k : ℕ) × (g : ℕ) × Ran l k g x × NeedsRow l k g × IsInputRow l.setup.system row

-- a run that can make a cycle: it is one of a life in which no row is wanting
abbrev pub CanCycle : ClockStream → Type 0
CanCycle x = (l : Life) × (k : ℕ) × (g : ℕ) × Ran l k g x × ¬ (NeedsRow l k g)
