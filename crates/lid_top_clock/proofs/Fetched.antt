-- The rows of a file, as the script reads them.
use Rattle.std.proofs.Common.{◌≡◌, ℕ, Bool, List, length, Option, Ok, Err, inr, subst}
use Rattle.std.specs.Borrow.{Bor}
use Rattle.std.specs.List.{AllByRecursion}
use Rattle.lid_base.specs.declared.outside.Fetch.{Fetch}
use Rattle.lid_base.specs.Outside.{Rose}
use Rattle.lid_base_io.specs.Calls.{CameAs, IsFetching}
use Rattle.lid_design.specs.declared.Design.{Design}
use Rattle.lid_design.specs.Columns.{root_inputs, root_outputs}
use Rattle.lid_texts_feed.specs.declared.fault.FeedFault.{FeedFault}
use Rattle.lid_texts_feed.specs.declared.fault.FeedFault.TheVariants as feed
use Rattle.lid_texts_feed.specs.Feeds.{IsText, AreAll, IsRefusedText, IfRead, IfRefused, IsFetchedFor, UnlessRead}
use Rattle.lid_texts_feed.specs.Feeds as feeds
use Rattle.lid_top_script.specs.Scripts.{IsFetched, rows_limit, vec_reading}
use Rattle.lid_top_script.specs.Causes.{Got, Misses, stop_of_rows}
use Rattle.lid_top_script.specs.FetchSteps.{FetchesFile}
use Rattle.lid_top_script.proofs.Going.{for_any, still_any}
use Rattle.lid_top_script.proofs.Readings.{vec_good, vec_declines}
use Rattle.lid_top_script.proofs.Composition.{misses_reading}
use Rattle.lid_top_clock.specs.Clocking.{FileHasRows}
use Rattle.lid_top_clock.specs.Stops.{stop_of_feed}

module _ (held : List ℕ → Option (List ℕ)) (d : Design) (vec : List ℕ) (columns : List (List ℕ)) (outs : ℕ) (named : columns ≡ root_inputs d) (counted : outs ≡ length (root_outputs d)) where
  fetched : (bytes : List ℕ) → IsText (held vec) bytes → IsFetched held vec rows_limit bytes
  fetched bytes t = record { short = t.short; told = t.told }

  got_all : (rows : List (List Bool)) → AreAll (held vec) columns outs rows → Got held vec rows_limit (vec_reading d) rows
  got_all rows all = record { bytes = all.bytes; fetched = fetched all.bytes all.fetched; stands = vec_good d all.bytes columns outs (record { columns = columns; bits = rows }) named counted all.reads }

  pub has_rows : (n : ℕ) → feeds.HasRows (held vec) columns outs n → FileHasRows held d vec n
  has_rows n h = record {
    rows = h.rows;
    got = got_all h.rows h.all;
    many = h.count;
    wide = subst (λ (names : List (List ℕ)). AllByRecursion (λ row. length row ≡ length names) h.rows) named h.wide;
    few = h.few;
  }

  pub misses : (file : Bor (List ℕ)) (before after : List ℕ → ℕ) (fault : FeedFault) → file.now ≡ vec → IfRead (Rose (before vec) (after vec)) fault → IfRefused (IsRefusedText (held vec) columns outs) fault
      → Misses held vec rows_limit (vec_reading d) before after (stop_of_feed file fault)
  misses file before after feed.Read same read refused = (same, read)
  misses file before after feed.Memory same read refused = tt
  misses file before after (feed.Refused fault) same read refused =
      misses_reading held vec rows_limit (vec_reading d) refused.bytes before after (stop_of_rows fault) (fetched refused.bytes refused.fetched)
      (vec_declines d refused.bytes columns outs fault named counted (inr refused.refuses))

-- counting the rows is a step that reads a file
pub counts_so : {A : Type 0} {whole : Bool} {held : Option (List ℕ)} {name : List ℕ} {old new : Option (List Fetch)} {before after : List ℕ → ℕ} (a : A) → CameAs old new (IsFetching whole held name rows_limit) → ((q : List ℕ) → after q ≡ before q)
    → FetchesFile {A = A} whole held name rows_limit old new before after (Ok a)
counts_so a came still = record { done = came; begun = tt; still = still; still_at = tt }

pub counts_not : {A : Type 0} {whole : Bool} {held : Option (List ℕ)} {name : List ℕ} {old new : Option (List Fetch)} {before after : List ℕ → ℕ} (file : Bor (List ℕ)) (fault : FeedFault) → CameAs old new (IsFetchedFor whole held name fault)
    → UnlessRead ((q : List ℕ) → after q ≡ before q) fault → FetchesFile {A = A} whole held name rows_limit old new before after (Err (stop_of_feed file fault))
counts_not file feed.Read came still = record { done = tt; begun = came; still = tt; still_at = tt }
counts_not file feed.Memory came still = record { done = tt; begun = came; still = tt; still_at = still }
counts_not {whole = whole} {held = held} {name = name} {before = before} {after = after} file (feed.Refused fault) came still = record {
  done = tt;
  begun = (came.0, came.1, for_any (stop_of_rows fault) whole held name rows_limit came.0 came.2);
  still = tt;
  still_at = still_any (stop_of_rows fault) before after still;
}
