-- What a run fetches that is fed its rows by a file.
use Rattle.std.specs.Prelude.{◌≡◌, ℕ, Bool, List, length, Option, Some, Result, OnOk, IfErr}
use Rattle.lid_base.specs.declared.outside.Fetch.{Fetch}
use Rattle.lid_base_io.specs.Calls.{CameAs, IsFetching}
use Rattle.lid_stations.specs.Placements.{links_of}
use Rattle.lid_clock.specs.Lives.{Life}
use Rattle.lid_texts_feed.specs.declared.fault.FeedFault.TheVariants as feed
use Rattle.lid_texts_feed.specs.declared.feed.RowFeed.{RowFeed}
use Rattle.lid_texts_feed.specs.Feeds.{most_bytes, AreFetchesFor, AreFirstFetchesFor, UnlessRead}
use Rattle.lid_texts_feed.specs.Fetching.{FeedsBy}
use Rattle.lid_top_script.specs.Clocked.{AsksFor}
use Rattle.lid_top_clock.specs.declared.fault.RunFault.{RunFault}
use Rattle.lid_top_clock.specs.declared.fault.RunFault.TheVariants.{Feed, Few, Memory, Write}
use Rattle.lid_top_clock.specs.Runnings.{ClockRun, source_columns, AreGiven, LifeBegins}

-- the feed has come so far by these fetches, each made while fewer than so many rows had ended before its place
abbrev pub FedBy : Bool → ClockRun → ℕ → Option (List Fetch) → Option (List Fetch) → RowFeed → Type 0
FedBy whole r rows first now feed = FeedsBy whole r.held (source_columns r.system) (length r.columns) (Some rows) first now feed

-- the fetches of a run that stopped: all of its file, where that is refused or has fewer rows, and otherwise some first
-- ones of those that its rows need
abbrev pub StopsBy : Bool → ClockRun → List ℕ → RunFault → List Fetch → Type 0
StopsBy whole r name (Feed feed.Read) calls = AreFirstFetchesFor whole r.held (source_columns r.system) (length r.columns) r.rows name calls
StopsBy whole r name (Feed feed.Memory) calls = AreFirstFetchesFor whole r.held (source_columns r.system) (length r.columns) r.rows name calls
StopsBy whole r name (Feed (feed.Refused fault)) calls = IsFetching whole r.held name most_bytes calls
StopsBy whole r name (Few found) calls = IsFetching whole r.held name most_bytes calls
StopsBy whole r name Memory calls = AreFirstFetchesFor whole r.held (source_columns r.system) (length r.columns) r.rows name calls
StopsBy whole r name Write calls = AreFirstFetchesFor whole r.held (source_columns r.system) (length r.columns) r.rows name calls

-- but where a fetch failed no count rose
abbrev pub StillFor : RunFault → (List ℕ → ℕ) → (List ℕ → ℕ) → Type 0
StillFor (Feed fault) before after = UnlessRead ((q : List ℕ) → after q ≡ before q) fault
StillFor (Few found) before after = (q : List ℕ) → after q ≡ before q
StillFor Memory before after = (q : List ℕ) → after q ≡ before q
StillFor Write before after = (q : List ℕ) → after q ≡ before q

-- a step of a run, after which the feed has come so far for so many rows
pub record Feeding {A : Type 0} (whole : Bool) (r : ClockRun) (name : List ℕ) (rows : ℕ) (first now : Option (List Fetch)) (feed : RowFeed) (before after : List ℕ → ℕ) (result : Result A RunFault) : Type 0 where
  pub done : OnOk result (FedBy whole r rows first now feed)
  pub begun : IfErr result (λ fault. CameAs first now (StopsBy whole r name fault))
  pub still : OnOk result ((q : List ℕ) → after q ≡ before q)
  pub still_for : IfErr result (λ fault. StillFor fault before after)

-- the fetches of a run that came to its end: those that the rows need which it asked for
pub record HasFetched (whole : Bool) (r : ClockRun) (name : List ℕ) (first now : Option (List Fetch)) : Type 0 where
  pub rows : List (List Bool)
  pub given : AreGiven r rows
  pub asks : (l : Life) → LifeBegins r rows l → AsksFor (links_of r.system) r.placement r.rows r.stalls (length rows)
  pub came : CameAs first now (AreFetchesFor whole r.held (source_columns r.system) (length r.columns) (length rows) name)

-- the fetches of a run
pub record RunFetches (whole : Bool) (r : ClockRun) (name : List ℕ) (first now : Option (List Fetch)) (before after : List ℕ → ℕ) (result : Result (Unit {0}) RunFault) : Type 0 where
  pub done : OnOk result (HasFetched whole r name first now)
  pub begun : IfErr result (λ fault. CameAs first now (StopsBy whole r name fault))
  pub still : OnOk result ((q : List ℕ) → after q ≡ before q)
  pub still_for : IfErr result (λ fault. StillFor fault before after)
