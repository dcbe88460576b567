-- What a second reading gives of a file whose bytes are told, and what it fetches.
use Rattle.std.specs.Prelude.{◌≡◌, ℕ, Bool, List, length, take, Option, Some}
use Rattle.lid_base.specs.declared.outside.Fetch.{Fetch}
use Rattle.lid_base_io.specs.Calls.{CameAs}
use Rattle.lid_texts.specs.declared.rows.VecFault.{VecFault}
use Rattle.lid_texts_feed.specs.declared.feed.RowFeed.{RowFeed}
use Rattle.lid_texts_feed.specs.Feeds.{AreAll, AreFirstRows, AreFetchesFor, IsRefusedText}
use Rattle.lid_texts_feed.specs.Fetching.{HasGiven, FeedsBy}

-- the file is not refused, its rows are these, and those that are given one by one are the first of them
pub record GivesAgain (file : List ℕ) (columns : List (List ℕ)) (outs : ℕ) (rows : List (List Bool)) : Type 0 where
  pub taken : (fault : VecFault) → IsRefusedText (Some file) columns outs fault → ⊥
  pub all : (again : List (List Bool)) → AreAll (Some file) columns outs again → again ≡ rows
  pub first : (given : List (List Bool)) → AreFirstRows (Some file) columns outs given → given ≡ take (length given) rows

-- a file that has these rows gives them again
abbrev pub RereadsTheSame : Type 0
RereadsTheSame = (file : List ℕ) (columns : List (List ℕ)) (outs : ℕ) (rows : List (List Bool)) → AreAll (Some file) columns outs rows → GivesAgain file columns outs rows

-- a feed that has given some rows, and has fetched only while fewer had ended, has made the fetches that they need and
-- no other
abbrev pub FetchesAsNeeded : Type 0
FetchesAsNeeded = (whole : Bool) (held : Option (List ℕ)) (columns : List (List ℕ)) (outs : ℕ) (first now : Option (List Fetch)) (feed : RowFeed) (given : List (List Bool)) → HasGiven held columns outs feed given
    → FeedsBy whole held columns outs (Some (length given)) first now feed → CameAs first now (AreFetchesFor whole held columns outs (length given) feed.name)
