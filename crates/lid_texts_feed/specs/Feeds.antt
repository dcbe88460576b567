-- Rows texts that are fetched from a file: what a text may be, and its rows.
use Rattle.std.specs.Prelude.{◌≡◌, ℕ, ◌+◌, ◌≤◌, nat_lt, Bool, true, List, length, take, Option, IfSome, Ok, Err, ⊤}
use Rattle.std.specs.List.{AllByRecursion, filter}
use Rattle.lid_base.specs.declared.outside.Fetch.{Fetch}
use Rattle.lid_base_io.specs.Calls.{fetches_of, IsFetching, IsFetchingPart}
use Rattle.lid_texts.specs.declared.rows.Rows.{Rows}
use Rattle.lid_texts.specs.declared.rows.VecFault.{VecFault}
use Rattle.lid_texts.specs.Rows.{rows_reading}
use Rattle.lid_texts.specs.Scans.{ended_rows}
use Rattle.lid_texts_feed.specs.declared.fault.FeedFault.{FeedFault}
use Rattle.lid_texts_feed.specs.declared.fault.FeedFault.TheVariants.{Read, Memory, Refused}

-- the greatest size of a rows text, in bytes
abbrev pub most_bytes : ℕ
most_bytes = 67108864

-- what a fetch of a whole rows text may give: at most one byte more than a text may have, and where the
-- file's bytes are told, these
pub record IsText (held : Option (List ℕ)) (bytes : List ℕ) : Type 0 where
  pub short : length bytes ≤ most_bytes + 1
  pub told : IfSome held (λ file. bytes ≡ take (most_bytes + 1) file)

-- these are all rows of a text of the file
pub record AreAll (held : Option (List ℕ)) (columns : List (List ℕ)) (outs : ℕ) (rows : List (List Bool)) : Type 0 where
  pub bytes : List ℕ
  pub fetched : IsText held bytes
  pub reads : rows_reading columns outs bytes ≡ Ok (record { columns = columns; bits = rows })

-- a text of the file has so many rows
pub record HasRows (held : Option (List ℕ)) (columns : List (List ℕ)) (outs n : ℕ) : Type 0 where
  pub rows : List (List Bool)
  pub all : AreAll held columns outs rows
  pub wide : AllByRecursion (λ row. length row ≡ length columns) rows
  pub count : n ≡ length rows
  pub few : n ≤ 1000000

-- a text of the file stands for no rows, but for this fault
pub record IsRefusedText (held : Option (List ℕ)) (columns : List (List ℕ)) (outs : ℕ) (fault : VecFault) : Type 0 where
  pub bytes : List ℕ
  pub fetched : IsText held bytes
  pub refuses : rows_reading columns outs bytes ≡ Err fault

-- where the file's bytes are told and stand for rows, these are the first of them
abbrev pub AreFirstRows : Option (List ℕ) → List (List ℕ) → ℕ → List (List Bool) → Type 0
AreFirstRows held columns outs given = IfSome held (λ file. (rows : Rows) → rows_reading columns outs (take (most_bytes + 1) file) ≡ Ok rows → given ≡ take (length given) rows.bits)

-- what holds where a fetch failed
abbrev pub IfRead : Type 0 → FeedFault → Type 0
IfRead Rises Read = Rises
IfRead Rises _ = ⊤

-- what holds of a fault of a text
abbrev pub IfRefused : (VecFault → Type 0) → FeedFault → Type 0
IfRefused Refuses (Refused fault) = Refuses fault
IfRefused Refuses _ = ⊤

-- the fetches of a text that stands for no rows: all of them where it is refused, and otherwise some first ones
abbrev pub IsFetchedFor : Bool → Option (List ℕ) → List ℕ → FeedFault → List Fetch → Type 0
IsFetchedFor whole held name Read calls = IsFetchingPart whole held name most_bytes calls
IsFetchedFor whole held name Memory calls = IsFetchingPart whole held name most_bytes calls
IsFetchedFor whole held name (Refused fault) calls = IsFetching whole held name most_bytes calls

-- those fetches of a file, where each gives as many bytes as there is room for or as are left, that begin before so many
-- rows have ended
abbrev pub fetches_for : List (List ℕ) → ℕ → ℕ → List ℕ → List ℕ → List Fetch
fetches_for columns outs rows name file = filter (λ call. nat_lt (length (ended_rows columns outs (take call.at file))) rows) (fetches_of name most_bytes (length file))

-- the fetches of a text that is read no further than so many rows need
pub record AreFetchesFor (whole : Bool) (held : Option (List ℕ)) (columns : List (List ℕ)) (outs rows : ℕ) (name : List ℕ) (calls : List Fetch) : Type 0 where
  pub part : IsFetchingPart whole held name most_bytes calls
  pub exact : whole ≡ true → IfSome held (λ file. calls ≡ fetches_for columns outs rows name file)

-- some first of these
pub record AreFirstFetchesFor (whole : Bool) (held : Option (List ℕ)) (columns : List (List ℕ)) (outs rows : ℕ) (name : List ℕ) (calls : List Fetch) : Type 0 where
  pub part : IsFetchingPart whole held name most_bytes calls
  pub exact : whole ≡ true → IfSome held (λ file. (k : ℕ) × (calls ≡ take k (fetches_for columns outs rows name file)))

-- but where a fetch failed no count rose
abbrev pub UnlessRead : Type 0 → FeedFault → Type 0
UnlessRead IsStill Read = ⊤
UnlessRead IsStill _ = IsStill
