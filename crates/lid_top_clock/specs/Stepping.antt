-- What a run is between its cycles. This serves the code of this crate.
use Rattle.std.specs.Prelude.{◌≡◌, ◌⊎◌, ℕ, zero, suc, ◌+◌, ◌^◌, ◌<◌, ◌≤◌, min, Bool, List, [], length, Option}
use Rattle.std.specs.Option.{is_some}
use Rattle.lid_stations.specs.Placements.{station_count, Fits}
use Rattle.lid_system.specs.declared.System.{System}
use Rattle.lid_system.specs.Systems.{IsWellFormed}
use Rattle.lid_stations.specs.declared.placement.Placement.{Placement}
use Rattle.lid_clock.specs.Lives.{Life, NeedsRow, IsBelow, StartsSo, fired_after, sink}
use Rattle.lid_stall_text.specs.declared.stalls.Stall.{Stall}
use Rattle.lid_stall_text.specs.Holds.{listed, hold_of, Ascend}
use Rattle.lid_top_clock.specs.Courses.{RanBy}
use Rattle.lid_texts.specs.RowsText.{rows_text}
use Rattle.lid_texts_feed.specs.declared.feed.RowFeed.{RowFeed}
use Rattle.lid_texts_feed.specs.Fetching.{HasGiven}
use Rattle.lid_top_clock.specs.declared.steps.Running.{Running}
use Rattle.lid_top_clock.specs.RunTexts.{cells_after, first_outputs, cycles_traced}
use Rattle.lid_top_clock.specs.Runnings.{ClockRun, source_columns, AreGiven, LifeBegins}
use Rattle.lid_top_clock.specs.Pushing.{HasPushed}

-- the rules of runs
pub record MeetsRunRules (r : ClockRun) : Type 0 where
  pub system : IsWellFormed r.system
  pub fits : Fits r.system r.placement
  pub few : r.rows ≤ 1000000
  pub ascend : Ascend (listed r.stalls)

-- a run that made no cycle, of a system with its stations over so many rows, of which the first is this
pub record HasBegun (s : System) (p : Placement) (rows : ℕ) (first : Option (List Bool)) (most : Option ℕ) (stalls : Option (List Stall)) (run : Running) : Type 0 where
  pub ran : (l : Life) → StartsSo l s p rows first → l.hold ≡ hold_of stalls (sink l) → RanBy l 0 (min 1 rows) run.stream
  pub given : run.given ≡ min 1 rows
  pub made : run.made ≡ 0
  pub stations : run.stations ≡ station_count p.relays
  pub trace : run.trace ≡ most
  pub told : run.told ≡ is_some stalls
  pub cells : run.cells.items ≡ []

-- the run is one of this system, whose output has these columns
pub record IsRunOf (r : ClockRun) (s : System) (columns : List (List ℕ)) : Type 0 where
  pub of : r.system ≡ s
  pub named : r.columns ≡ columns

-- the feed has given these rows
abbrev pub FeedGives : ClockRun → RowFeed → List (List Bool) → Type 0
FeedGives r feed given = HasGiven r.held (source_columns r.system) (length r.columns) feed given

-- a run is where a life is that was given so many rows, and the sink had a firing left before each cycle
pub record IsAtLife (r : ClockRun) (given : ℕ) (run : Running) (l : Life) : Type 0 where
  pub ran : RanBy l run.made given run.stream
  pub cells : run.cells.items ≡ cells_after l (cycles_traced r.trace run.made)
  pub busy : (k : ℕ) → k < run.made → IsBelow l k

-- a run that was given these rows
pub record IsRunning (r : ClockRun) (run : Running) (given : List (List Bool)) : Type 0 where
  pub rules : MeetsRunRules r
  pub rows : AreGiven r given
  pub count : run.given ≡ length given
  pub trace : run.trace ≡ r.trace
  pub told : run.told ≡ is_some r.stalls
  pub stations : run.stations ≡ station_count r.placement.relays
  pub lives : (l : Life) → LifeBegins r given l → IsAtLife r (length given) run l

-- no life needs a further row
abbrev pub NeedsNoRow : ClockRun → Running → List (List Bool) → Type 0
NeedsNoRow r run given = (l : Life) → LifeBegins r given l → NeedsRow l run.made (length given) → ⊥

-- the run has not ended
abbrev pub HasNotEnded : ClockRun → Running → List (List Bool) → Type 0
HasNotEnded r run given = (l : Life) → LifeBegins r given l → IsBelow l run.made

-- how many rows were asked for before a cycle: the first before any, and before each cycle the row after the one that the
-- source puts next
abbrev pub rows_asked : Life → ℕ → ℕ
rows_asked l zero = min 1 (length l.setup.input)
rows_asked l (suc k) = min (length l.setup.input) (fired_after l k 0 + 2)

-- as many rows were given as were asked for before this cycle
abbrev pub HasAsked : ClockRun → List (List Bool) → ℕ → Type 0
HasAsked r given made = (l : Life) → LifeBegins r given l → length given ≡ rows_asked l made

-- a run with its feed, that was given these rows
pub record IsFed (r : ClockRun) (held : Option (List ℕ)) (run : Running) (feed : RowFeed) (given : List (List Bool)) : Type 0 where
  pub told : r.held ≡ held
  pub running : IsRunning r run given
  pub feeds : FeedGives r feed given
  pub asked : HasAsked r given run.made

-- a run that has begun with its feed
pub record HasStarted (r : ClockRun) (run : Running) (feed : RowFeed) : Type 0 where
  pub given : List (List Bool)
  pub running : IsRunning r run given
  pub feeds : FeedGives r feed given
  pub one : length given ≡ min 1 r.rows

-- as many rows are given as before, or the next one, where it is needed
abbrev pub GivesOnce : ClockRun → List (List Bool) → List (List Bool) → ℕ → Type 0
GivesOnce r before given made = (l : Life) → LifeBegins r given l → (length given ≡ length before) ⊎ (NeedsRow l made (length before) × (length given ≡ length before + 1))

-- a run that was given rows so that it is ready
pub record IsFedOn (r : ClockRun) (before : List (List Bool)) (run : Running) (feed : RowFeed) : Type 0 where
  pub given : List (List Bool)
  pub running : IsRunning r run given
  pub feeds : FeedGives r feed given
  pub further : (l : Life) → LifeBegins r given l → LifeBegins r before l
  pub ready : NeedsNoRow r run given
  pub once : GivesOnce r before given run.made

-- a run that made a further cycle
pub record HasMadeCycle (r : ClockRun) (before : List (List Bool)) (made : ℕ) (run : Running) (feed : RowFeed) : Type 0 where
  pub given : List (List Bool)
  pub running : IsRunning r run given
  pub feeds : FeedGives r feed given
  pub further : (l : Life) → LifeBegins r given l → LifeBegins r before l
  pub one : run.made ≡ made + 1
  pub few : run.made < 2 ^ 64
  pub asked : HasAsked r given run.made

-- the rows for which the sink has fired were pushed
abbrev pub HasTold : {O : Type 0} → ClockRun → List (List Bool) → ℕ → (O → Option (List ℕ)) → (O → Option (List (List ℕ))) → O → O → List ℕ → Type 0
HasTold r given made written pieces before now held =
    (l : Life) → LifeBegins r given l → HasPushed written pieces before now held (rows_text r.columns (first_outputs l (fired_after l made (sink l))))
