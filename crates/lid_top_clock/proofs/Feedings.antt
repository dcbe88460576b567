-- The fetches of a run, step by step.
use Rattle.std.proofs.Common.{◌≡◌, ℕ, ◌+◌, ◌≤◌, Bool, List, length, Option, Some, None, IfErr, Result, Ok, Err, sym, ◌∙◌, subst, true≢false, arith}
use Rattle.std.specs.Prelude.{IsSome}
use Rattle.lid_base.specs.declared.outside.Fetch.{Fetch}
use Rattle.lid_base_io.specs.Calls.{CameAs, IsFetching}
use Rattle.lid_texts_feed.specs.declared.fault.FeedFault.{FeedFault}
use Rattle.lid_texts_feed.specs.declared.fault.FeedFault.TheVariants as feed
use Rattle.lid_texts_feed.specs.declared.feed.RowFeed.{RowFeed}
use Rattle.lid_texts_feed.specs.Feeds.{most_bytes, AreFirstFetchesFor}
use Rattle.lid_texts_feed.specs.Fetching.{AreNeeded, CameTo, FeedsBy, FailsBy}
use Rattle.lid_texts_feed.proofs.Needing.{in_part, needed_for, feeds_for, feeds_in_part}
use Rattle.lid_top_clock.specs.declared.fault.RunFault.{RunFault}
use Rattle.lid_top_clock.specs.declared.fault.RunFault.TheVariants.{Feed, Few, Memory, Write}
use Rattle.lid_top_clock.specs.Pushing.{IsTellCause}
use Rattle.lid_top_clock.specs.Runnings.{ClockRun, source_columns}
use Rattle.lid_top_clock.specs.Refetching.{FedBy, StopsBy, StillFor, Feeding, HasFetched, RunFetches}

module _ (whole : Bool) (r : ClockRun) where
  abbrev columns : List (List ℕ)
  columns = source_columns r.system

  abbrev outs : ℕ
  outs = length r.columns

  abbrev AreSome : List ℕ → List Fetch → Type 0
  AreSome name calls = AreFirstFetchesFor whole r.held columns outs r.rows name calls

  -- the row after those that were given could not be had
  pub fails_so : (name : List ℕ) (rows : ℕ) (first now : Option (List Fetch)) (fault : FeedFault) → rows ≤ r.rows → FailsBy whole r.held columns outs (Some rows) name first now fault → CameAs first now (StopsBy whole r name (Feed fault))
  fails_so name rows first now feed.Read few so = (so.0, so.1, in_part whole r.held columns outs name r.rows so.0 so.2.0 (needed_for r.held columns outs rows r.rows so.0 few so.2.1))
  fails_so name rows first now feed.Memory few so = (so.0, so.1, in_part whole r.held columns outs name r.rows so.0 so.2.0 (needed_for r.held columns outs rows r.rows so.0 few so.2.1))
  fails_so name rows first now (feed.Refused fault) few so = (so.0, so.1, so.2.0)

  -- the text has ended
  pub ended_so : (text : RowFeed) (name : List ℕ) (asked : Option ℕ) (first now : Option (List Fetch)) → text.name ≡ name → IsSome text.text.count → FeedsBy whole r.held columns outs asked first now text
      → CameAs first now (IsFetching whole r.held name most_bytes)
  ended_so text name asked first now named some so =
      subst (λ (n : List ℕ). CameAs first now (IsFetching whole r.held n most_bytes)) named (by text.text.count some so)
    where
      by : (count : Option ℕ) → IsSome count → CameTo (AreNeeded r.held columns outs asked) whole r.held text.name text.text.fetched first now count → CameAs first now (IsFetching whole r.held text.name most_bytes)
      by None some came = absurd (true≢false (sym some))
      by (Some n) some came = (came.0, came.1, came.2.0)

  -- the run stops while the feed has come so far
  pub some_so : (text : RowFeed) (name : List ℕ) (rows : ℕ) (first now : Option (List Fetch)) → text.name ≡ name → rows ≤ r.rows → FedBy whole r rows first now text → CameAs first now (AreSome name)
  some_so text name rows first now named few so =
      subst (λ (n : List ℕ). CameAs first now (AreSome n)) named (feeds_in_part whole r.held columns outs first now text r.rows (feeds_for whole r.held columns outs first now text rows r.rows few so))

  -- since a line could not be told
  pub untold_so : (name : List ℕ) (first now : Option (List Fetch)) (writes : Type 0) (fault : RunFault) → IsTellCause writes fault → CameAs first now (AreSome name) → CameAs first now (StopsBy whole r name fault)
  untold_so name first now writes (Feed fault) c so = absurd c
  untold_so name first now writes (Few found) c so = absurd c
  untold_so name first now writes Memory c so = so
  untold_so name first now writes Write c so = so

  -- a file by other words
  pub fed_of : (h : Option (List ℕ)) (rows : ℕ) (first now : Option (List Fetch)) (text : RowFeed) → r.held ≡ h → FeedsBy whole h columns outs (Some rows) first now text → FedBy whole r rows first now text
  fed_of h rows first now text told so = subst (λ (o : Option (List ℕ)). FeedsBy whole o columns outs (Some rows) first now text) (sym told) so

  pub fed_as : (h : Option (List ℕ)) (rows : ℕ) (first now : Option (List Fetch)) (text : RowFeed) → r.held ≡ h → FedBy whole r rows first now text → FeedsBy whole h columns outs (Some (rows + 1)) first now text
  fed_as h rows first now text told so =
      feeds_for whole h columns outs first now text rows (rows + 1) (omega arith) (subst (λ (o : Option (List ℕ)). FeedsBy whole o columns outs (Some rows) first now text) told so)

-- counts that are still are so whatever the fault
pub still_for_any : (fault : RunFault) (before after : List ℕ → ℕ) → ((q : List ℕ) → after q ≡ before q) → StillFor fault before after
still_for_any (Feed feed.Read) before after still = tt
still_for_any (Feed feed.Memory) before after still = still
still_for_any (Feed (feed.Refused fault)) before after still = still
still_for_any (Few found) before after still = still
still_for_any Memory before after still = still
still_for_any Write before after still = still

-- and so where they were the same before that
pub still_for_later : (fault : RunFault) (before mid after : List ℕ → ℕ) → ((q : List ℕ) → mid q ≡ before q) → StillFor fault mid after → StillFor fault before after
still_for_later (Feed feed.Read) before mid after same still = tt
still_for_later (Feed feed.Memory) before mid after same still = λ q. still q ∙ same q
still_for_later (Feed (feed.Refused fault)) before mid after same still = λ q. still q ∙ same q
still_for_later (Few found) before mid after same still = λ q. still q ∙ same q
still_for_later Memory before mid after same still = λ q. still q ∙ same q
still_for_later Write before mid after same still = λ q. still q ∙ same q

module _ {whole : Bool} {r : ClockRun} {name : List ℕ} {first now : Option (List Fetch)} {before after : List ℕ → ℕ} where
  pub fed_on_ok : {A : Type 0} {a : A} {rows : ℕ} {text : RowFeed} → FedBy whole r rows first now text → ((q : List ℕ) → after q ≡ before q) → Feeding {A = A} whole r name rows first now text before after (Ok a)
  fed_on_ok so still = record { done = so; begun = tt; still = still; still_for = tt }

  pub fed_on_err : {A : Type 0} {rows : ℕ} {text : RowFeed} (fault : RunFault) → CameAs first now (StopsBy whole r name fault) → StillFor fault before after → Feeding {A = A} whole r name rows first now text before after (Err fault)
  fed_on_err fault so still = record { done = tt; begun = so; still = tt; still_for = still }

  -- a step that stopped, as one of another kind
  pub fed_not : {A B : Type 0} {few many : ℕ} {text other : RowFeed} {fault : RunFault} → Feeding {A = A} whole r name few first now text before after (Err fault) → Feeding {A = B} whole r name many first now other before after (Err fault)
  fed_not f = record { done = tt; begun = f.begun; still = tt; still_for = f.still_for }

  -- after the feed has come so far, only memory may be wanting
  pub fed_wanting : {A : Type 0} {rows : ℕ} {text : RowFeed} (result : Result A RunFault) → IfErr result (λ fault. fault ≡ Memory) → text.name ≡ name → rows ≤ r.rows → FedBy whole r rows first now text
      → ((q : List ℕ) → after q ≡ before q) → Feeding {A = A} whole r name rows first now text before after result
  fed_wanting (Ok a) want named few so still = fed_on_ok so still
  fed_wanting {rows = rows} {text = text} (Err fault) want named few so still =
      fed_on_err fault (subst (λ (f : RunFault). CameAs first now (StopsBy whole r name f)) (sym want) (some_so whole r text name rows first now named few so)) (still_for_any fault before after still)

  pub run_stops : (fault : RunFault) → CameAs first now (StopsBy whole r name fault) → StillFor fault before after → RunFetches whole r name first now before after (Err fault)
  run_stops fault so still = record { done = tt; begun = so; still = tt; still_for = still }

  -- what is told last ends the run, or it could not be told
  pub run_told : (result : Result (Unit {0}) RunFault) (writes : Type 0) → IfErr result (IsTellCause writes) → HasFetched whole r name first now → CameAs first now (AreSome whole r name) → ((q : List ℕ) → after q ≡ before q)
      → RunFetches whole r name first now before after result
  run_told (Ok done) writes cause all some still = record { done = all; begun = tt; still = still; still_for = tt }
  run_told (Err fault) writes cause all some still = run_stops fault (untold_so whole r name first now writes fault cause some) (still_for_any fault before after still)

-- a run, as seen from earlier on
pub run_later : {whole : Bool} {r : ClockRun} {name : List ℕ} {first now : Option (List Fetch)} {mid after : List ℕ → ℕ} (before : List ℕ → ℕ) (result : Result (Unit {0}) RunFault) → ((q : List ℕ) → mid q ≡ before q)
    → RunFetches whole r name first now mid after result → RunFetches whole r name first now before after result
run_later before (Ok done) same f = record { done = f.done; begun = tt; still = λ q. f.still q ∙ same q; still_for = tt }
run_later {mid = mid} {after = after} before (Err fault) same f = record { done = tt; begun = f.begun; still = tt; still_for = still_for_later fault before mid after same f.still_for }

-- a feed that has fetched nothing, by other words
pub fed_first : (whole : Bool) (held : Option (List ℕ)) (first : Option (List Fetch)) (text : RowFeed) {columns names : List (List ℕ)} {outs count : ℕ} → columns ≡ names → outs ≡ count → FeedsBy whole held columns outs (Some 0) first first text → FeedsBy whole held names count (Some 0) first first text
fed_first whole held first text {names = names} {outs = outs} named counted so =
    subst (λ (n : ℕ). FeedsBy whole held names n (Some 0) first first text) counted (subst (λ (cs : List (List ℕ)). FeedsBy whole held cs outs (Some 0) first first text) named so)
