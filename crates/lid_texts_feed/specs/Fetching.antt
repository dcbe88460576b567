-- What is kept between the pieces of a rows text. This serves the code of this crate, and its callers'
-- invariants.
use Rattle.std.specs.Prelude.{◌≡◌, ℕ, ◌+◌, ◌-◌, ◌≤◌, ◌<◌, Bool, true, false, List, ◌∷◌, [], ◌++◌, length, take, reverse, Option, Some, None, IfSome}
use Rattle.std.specs.List.{AllByRecursion}
use Rattle.lid_base.specs.declared.outside.Fetch.{Fetch}
use Rattle.lid_base_io.specs.Calls.{CameAs, FetchesSoFar, IsFetching, IsFetchingPart}
use Rattle.lid_base_io.specs.Transfer.{FetchedNext}
use Rattle.lid_base_io.specs.declared.fetching.FetchFault.{FetchFault}
use Rattle.lid_base_io.specs.declared.fetching.FetchFault.TheVariants as fetching
use Rattle.lid_texts.specs.declared.rows.VecFault.{VecFault}
use Rattle.lid_texts.specs.declared.rows.VecFault.TheVariants as rows
use Rattle.lid_texts.specs.declared.scan.RowScan.{RowScan}
use Rattle.lid_texts.specs.Scans.{ended_rows}
use Rattle.lid_texts.specs.Scanned.{HasRead, Gives}
use Rattle.lid_texts_feed.specs.declared.fault.FeedFault.{FeedFault}
use Rattle.lid_texts_feed.specs.declared.fault.FeedFault.TheVariants.{Read, Memory, Refused}
use Rattle.lid_texts_feed.specs.declared.text.TextScan.{TextScan}
use Rattle.lid_texts_feed.specs.declared.feed.RowFeed.{RowFeed}
use Rattle.lid_texts_feed.specs.Feeds.{most_bytes, IsText, AreAll, AreFirstRows, IsFetchedFor}

-- where the file's bytes are told, these are its first
abbrev pub BeginsFile : Option (List ℕ) → List ℕ → Type 0
BeginsFile held bytes = IfSome held (λ file. bytes ≡ take (length bytes) file)

-- n more bytes were fetched and scanned, none only at the end of the file
pub record ScansPiece (whole : Bool) (held : Option (List ℕ)) (old new : RowScan) (bytes : List ℕ) (room : ℕ) (before now : List (List Bool)) (n : ℕ) : Type 0 where
  pub piece : List ℕ
  pub long : n ≡ length piece
  pub read : HasRead new (bytes ++ piece)
  pub gives : Gives old.columns old.outs bytes (bytes ++ piece) before now
  pub next : FetchedNext whole held bytes (bytes ++ piece) room

-- these bytes were fetched and scanned
pub record HasFetched (held : Option (List ℕ)) (columns : List (List ℕ)) (outs : ℕ) (text : TextScan) (bytes : List ℕ) : Type 0 where
  pub names : text.scan.columns ≡ columns
  pub width : text.scan.outs ≡ outs
  pub read : HasRead text.scan bytes
  pub long : text.fetched ≡ length bytes
  pub short : length bytes ≤ most_bytes + 1
  pub begins : BeginsFile held bytes

-- a piece was fetched and scanned, and where there was none, the text has ended
pub record TakesPiece (held : Option (List ℕ)) (columns : List (List ℕ)) (outs : ℕ) (new : TextScan) (bytes : List ℕ) (before now : List (List Bool)) (more : Bool) : Type 0 where
  pub piece : List ℕ
  pub fetched : HasFetched held columns outs new (bytes ++ piece)
  pub gives : Gives columns outs bytes (bytes ++ piece) before now
  pub ends : more ≡ false → IsText held (bytes ++ piece)

-- these rows are known of the text: those of the lines that have ended, and all of them once it has
-- been found how many there are
abbrev pub Knows : Option (List ℕ) → List (List ℕ) → ℕ → TextScan → Option ℕ → List (List Bool) → Type 0
Knows held columns outs text None rows = (bytes : List ℕ) × HasFetched held columns outs text bytes × (rows ≡ ended_rows columns outs bytes)
Knows held columns outs text (Some n) rows = AreAll held columns outs rows × (n ≡ length rows)

-- where it is known how many rows are asked for, and the file's bytes are told: fewer rows than these end before each
-- place that was fetched from
abbrev pub AreNeeded : Option (List ℕ) → List (List ℕ) → ℕ → Option ℕ → List Fetch → Type 0
AreNeeded held columns outs asked calls = IfSome asked (λ rows. IfSome held (λ file. AllByRecursion (λ call. length (ended_rows columns outs (take call.at file)) < rows) calls))

-- the fetches so far, of which the next one comes from this place; or all of them, once the text has ended. `Also`
-- holds of them too
abbrev pub CameSo : (List Fetch → Type 0) → Bool → Option (List ℕ) → List ℕ → ℕ → Option (List Fetch) → Option (List Fetch) → Bool → Type 0
CameSo Also whole held name at first now true = CameAs first now (λ calls. FetchesSoFar whole held name most_bytes at calls × Also calls)
CameSo Also whole held name at first now false = CameAs first now (λ calls. IsFetching whole held name most_bytes calls × Also calls)

-- the same by whether it has been found how many rows the text has
abbrev pub CameTo : (List Fetch → Type 0) → Bool → Option (List ℕ) → List ℕ → ℕ → Option (List Fetch) → Option (List Fetch) → Option ℕ → Type 0
CameTo Also whole held name at first now None = CameAs first now (λ calls. FetchesSoFar whole held name most_bytes at calls × Also calls)
CameTo Also whole held name at first now (Some n) = CameAs first now (λ calls. IsFetching whole held name most_bytes calls × Also calls)

-- some first fetches of the text
abbrev pub CameInPart : (List Fetch → Type 0) → Bool → Option (List ℕ) → List ℕ → Option (List Fetch) → Option (List Fetch) → Type 0
CameInPart Also whole held name first now = CameAs first now (λ calls. IsFetchingPart whole held name most_bytes calls × Also calls)

-- the text has come so far by these fetches, each made while fewer rows than are asked for ended before its place
abbrev pub ScansBy : Bool → Option (List ℕ) → List (List ℕ) → ℕ → Option ℕ → List ℕ → Option (List Fetch) → Option (List Fetch) → TextScan → Type 0
ScansBy whole held columns outs asked name first now text = CameTo (AreNeeded held columns outs asked) whole held name text.fetched first now text.count

-- the fetches of a text that stands for no rows, each made so
abbrev pub FailsBy : Bool → Option (List ℕ) → List (List ℕ) → ℕ → Option ℕ → List ℕ → Option (List Fetch) → Option (List Fetch) → FeedFault → Type 0
FailsBy whole held columns outs asked name first now fault = CameAs first now (λ calls. IsFetchedFor whole held name fault calls × AreNeeded held columns outs asked calls)

-- fewer rows than are asked for, where that is known
abbrev pub IsBelowAsked : Option ℕ → ℕ → Type 0
IsBelowAsked asked n = IfSome asked (λ rows. n < rows)

-- further rows of the text became known, and were appended
pub record KnowsMore (held : Option (List ℕ)) (columns : List (List ℕ)) (outs : ℕ) (new : TextScan) (known before now : List (List Bool)) : Type 0 where
  pub rows : List (List Bool)
  pub appended : now ≡ before ++ rows
  pub knows : Knows held columns outs new new.count (known ++ rows)

-- how much is still to be fetched, at most
abbrev pub left_of : TextScan → Option ℕ → ℕ
left_of text None = most_bytes + 1 - text.fetched + 1
left_of text (Some n) = 0

-- the feed has given these rows, and holds the next that are known, the next one last
pub record HasGiven (held : Option (List ℕ)) (columns : List (List ℕ)) (outs : ℕ) (feed : RowFeed) (given : List (List Bool)) : Type 0 where
  pub knows : Knows held columns outs feed.text feed.text.count (given ++ reverse feed.rows.items)

-- the feed has come so far by these fetches, each made while fewer rows than are asked for ended before its place
abbrev pub FeedsBy : Bool → Option (List ℕ) → List (List ℕ) → ℕ → Option ℕ → Option (List Fetch) → Option (List Fetch) → RowFeed → Type 0
FeedsBy whole held columns outs asked first now feed = ScansBy whole held columns outs asked feed.name first now feed.text

-- the next row of the text was given after these
pub record GivesRow (held : Option (List ℕ)) (columns : List (List ℕ)) (outs : ℕ) (new : RowFeed) (given : List (List Bool)) (row : List Bool) : Type 0 where
  pub gives : HasGiven held columns outs new (given ++ row ∷ [])
  pub wide : length row ≡ length columns
  pub first : AreFirstRows held columns outs (given ++ row ∷ [])

-- the next row was given, or there is none, and those that were given are all
abbrev pub GivesNext : Option (List ℕ) → List (List ℕ) → ℕ → RowFeed → List (List Bool) → Option (List Bool) → Type 0
GivesNext held columns outs new given None = AreAll held columns outs given
GivesNext held columns outs new given (Some row) = GivesRow held columns outs new given row

-- why a piece could not be had
abbrev pub fetch_fault : FetchFault → FeedFault
fetch_fault fetching.Read = Read
fetch_fault fetching.Memory = Memory

-- why a text stands for no rows
abbrev pub feed_fault : VecFault → FeedFault
feed_fault rows.Memory = Memory
feed_fault fault = Refused fault
