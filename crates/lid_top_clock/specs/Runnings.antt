-- What a run does that is fed its rows by a file: it writes the text of each life that begins with the rows that
-- it was given, whole or in part, in its pieces or some first of them.
use Rattle.std.specs.Prelude.{◌≡◌, ℕ, ◌<◌, ◌≤◌, Bool, List, [], length, take, Option, slice_get, ⊤}
use Rattle.std.specs.List.{AllByRecursion}
use Rattle.std.specs.Option.{option_map_or}
use Rattle.lid_base.specs.Outside.{Appended, AppendedPrefix, Came, CamePrefix}
use Rattle.lid_base_io.specs.Calls.{pieces_of}
use Rattle.lid_system.specs.declared.System.{System}
use Rattle.lid_system.specs.declared.Node.{Node}
use Rattle.lid_system.specs.declared.Node.TheVariants.{Source, Shell, Sink}
use Rattle.lid_stations.specs.declared.placement.Placement.{Placement}
use Rattle.lid_clock.specs.Lives.{Life}
use Rattle.lid_shell_laws.specs.Setups.{IsInputRow}
use Rattle.lid_stall_text.specs.declared.stalls.Stall.{Stall}
use Rattle.lid_texts_feed.specs.Feeds.{AreFirstRows, AreAll, IsRefusedText, IfRead, IfRefused}
use Rattle.lid_top_clock.specs.declared.task.Task.{Task}
use Rattle.lid_top_clock.specs.declared.fault.RunFault.{RunFault}
use Rattle.lid_top_clock.specs.declared.fault.RunFault.TheVariants.{Feed, Few, Memory, Write}
use Rattle.lid_top_clock.specs.RunTexts.{IsLifeOf, IsRunText}

-- a run: a system with its stations, the columns of its output, how many rows there are, for how many cycles at
-- most a trace is wanted, the stalls that hold it, where some are given, and what the file of the rows holds, where
-- that is told
pub record ClockRun : Type 0 where
  pub system : System
  pub placement : Placement
  pub columns : List (List ℕ)
  pub rows : ℕ
  pub trace : Option ℕ
  pub stalls : Option (List Stall)
  pub held : Option (List ℕ)

abbrev pub run_of : System → Placement → List (List ℕ) → ℕ → Option ℕ → Option (List Stall) → Option (List ℕ) → ClockRun
run_of s p columns rows trace stalls held = record { system = s; placement = p; columns = columns; rows = rows; trace = trace; stalls = stalls; held = held }

-- the run of a task, with these stalls, over a file that holds this
abbrev pub run_by : Task → Option (List Stall) → Option (List ℕ) → ClockRun
run_by task stalls held = run_of task.placed.now.system task.placed.now.placement task.columns.now task.rows task.trace stalls held

-- the columns of a source
abbrev pub columns_of : Node → List (List ℕ)
columns_of (Source columns) = columns
columns_of (Shell pearl ins) = []
columns_of (Sink columns ins) = []

-- the columns of the input
abbrev pub source_columns : System → List (List ℕ)
source_columns s = option_map_or columns_of (slice_get s.nodes 0) []

-- rows that the file gave: the first of its rows
pub record AreGiven (r : ClockRun) (rows : List (List Bool)) : Type 0 where
  pub few : length rows ≤ r.rows
  pub wide : AllByRecursion (IsInputRow r.system) rows
  pub first : AreFirstRows r.held (source_columns r.system) (length r.columns) rows

-- a life of the run that begins with these rows
pub record LifeBegins (r : ClockRun) (rows : List (List Bool)) (l : Life) : Type 0 where
  pub of : IsLifeOf l r.system r.placement r.stalls
  pub many : length l.setup.input ≡ r.rows
  pub first : take (length rows) l.setup.input ≡ rows

-- the text of a life was written
pub record Writes {O : Type 0} (r : ClockRun) (l : Life) (written : O → Option (List ℕ)) (pieces : O → Option (List (List ℕ)))
    (before now : O) : Type 0 where
  pub text : List ℕ
  pub is : IsRunText l r.columns r.stalls r.trace text
  pub appended : Appended (written before) (written now) text
  pub came : Came (pieces before) (pieces now) (pieces_of text)

-- a first part of the text of a life was written
pub record WritesPart {O : Type 0} (r : ClockRun) (l : Life) (written : O → Option (List ℕ)) (pieces : O → Option (List (List ℕ)))
    (before now : O) : Type 0 where
  pub text : List ℕ
  pub is : IsRunText l r.columns r.stalls r.trace text
  pub appended : AppendedPrefix (written before) (written now) text
  pub came : CamePrefix (pieces before) (pieces now) (pieces_of text)

-- the file gave some rows, and the text of each life that begins with them was written. These are all rows but
-- where the sink does not wait for the source
pub record HasRun {O : Type 0} (r : ClockRun) (written : O → Option (List ℕ)) (pieces : O → Option (List (List ℕ)))
    (before now : O) : Type 0 where
  pub rows : List (List Bool)
  pub given : AreGiven r rows
  pub told : (l : Life) → LifeBegins r rows l → Writes r l written pieces before now

-- why a run stopped that was given these rows: a fetch failed, the file's text is refused, it has fewer rows,
-- there was no memory, or a write failed
abbrev pub IsRunCause : ClockRun → List (List Bool) → Type 0 → Type 0 → RunFault → Type 0
IsRunCause r rows reads writes (Feed fault) = IfRead reads fault × IfRefused (IsRefusedText r.held (source_columns r.system) (length r.columns)) fault
IsRunCause r rows reads writes (Few found) = AreAll r.held (source_columns r.system) (length r.columns) rows × (found ≡ length rows) × (found < r.rows)
IsRunCause r rows reads writes Memory = ⊤
IsRunCause r rows reads writes Write = writes

-- the file gave some rows, and a first part of the text of each life that begins with them was written
pub record HasStopped {O : Type 0} (r : ClockRun) (written : O → Option (List ℕ)) (pieces : O → Option (List (List ℕ)))
    (before now : O) (reads writes : Type 0) (fault : RunFault) : Type 0 where
  pub rows : List (List Bool)
  pub given : AreGiven r rows
  pub told : (l : Life) → LifeBegins r rows l → WritesPart r l written pieces before now
  pub cause : IsRunCause r rows reads writes fault
