-- The fetches that the first rows of a text need: those that begin before these rows have ended.
use Rattle.std.proofs.Common.{◌≡◌, ℕ, zero, suc, ◌+◌, ◌-◌, ◌<◌, ◌≤◌, min, nat_lt, nat_le, Bool, true, false, cond, if◌then◌else◌, List, [], ◌∷◌, ◌++◌, length, take, drop, map, filter, reverse, Option, Some, None, IfSome, refl, sym, ◌∙◌, ap, append-nil, length-append, arith}
use Rattle.std.specs.List.{AllByRecursion}
use Rattle.std.proofs.Math.Seq.{take-append_seam}
use Rattle.std.proofs.lemmas.Bool.{lt-ltb, le-ltb}
use Rattle.std.proofs.lemmas.List.{take-append-drop}
use Rattle.std.proofs.lemmas.List.Elements.{filter-append}
use Rattle.lid_base.specs.declared.outside.Fetch.{Fetch}
use Rattle.lid_base.proofs.Lists.{all_append}
use Rattle.lid_base.proofs.Alls.{all_weaker, all_map}
use Rattle.lid_base_io.specs.Calls.{CameAs, pieces_in, places_from, fetch_places, fetch_from, fetches_of, IsFetching, IsFetchingPart}
use Rattle.lid_base_io.proofs.Going.{part_of_going, part_of_all}
use Rattle.lid_texts.specs.Scans.{ended_rows}
use Rattle.lid_texts_feed.specs.declared.feed.RowFeed.{RowFeed}
use Rattle.lid_texts_feed.specs.declared.text.TextScan.{TextScan}
use Rattle.lid_texts_feed.specs.Feeds.{most_bytes, fetches_for, AreFetchesFor, AreFirstFetchesFor}
use Rattle.lid_texts_feed.specs.Fetching.{AreNeeded, CameTo, HasFetched, Knows, FeedsBy}
use Rattle.lid_texts_feed.specs.Rereadings.{FetchesAsNeeded}
use Rattle.lid_texts_feed.proofs.Beginnings.{rows_go_on}
use Rattle.lid_texts_feed.proofs.Giving.{rest_of}

-- a filter that passes all, or none
filter_all : {A : Type 0} (p : A → Bool) (xs : List A) → AllByRecursion (λ x. p x ≡ true) xs → filter p xs ≡ xs
filter_all p [] all = refl
filter_all {A} p (x ∷ xs) all = ap (λ (b : Bool). cond b (x ∷ filter p xs) (filter p xs)) all.0 ∙ ap (λ (ys : List A). x ∷ ys) (filter_all p xs all.1)

filter_none : {A : Type 0} (p : A → Bool) (xs : List A) → AllByRecursion (λ x. p x ≡ false) xs → filter p xs ≡ []
filter_none p [] all = refl
filter_none {A} p (x ∷ xs) all = ap (λ (b : Bool). cond b (x ∷ filter p xs) (filter p xs)) all.0 ∙ filter_none p xs all.1

-- the places that are left come no earlier
places_later : (least count at : ℕ) → least ≤ at → AllByRecursion (λ place. least ≤ place) (places_from count at)
places_later least zero at few = tt
places_later least (suc count) at few = (few, places_later least count (at + 65536) (omega arith))

left_later : (limit size at : ℕ) → at ≤ size → AllByRecursion (λ place. at ≤ place) (fetch_places limit size at)
left_later limit size at few =
    all_append (λ (place : ℕ). at ≤ place) (places_from (pieces_in (min size (limit + 1) - at)) at) (if nat_le size limit then size ∷ [] else [])
    (places_later at (pieces_in (min size (limit + 1) - at)) at (omega arith))
    (by (nat_le size limit))
  where
    by : (b : Bool) → AllByRecursion (λ place. at ≤ place) (if b then size ∷ [] else [])
    by true = (few, tt)
    by false = tt

module _ (columns : List (List ℕ)) (outs rows : ℕ) (file : List ℕ) where
  abbrev there : ℕ → ℕ
  there place = length (ended_rows columns outs (take place file))

  abbrev needed : Fetch → Bool
  needed call = nat_lt (there call.at) rows

  -- no fewer rows end before a later place
  there_more : (first later : ℕ) → first ≤ later → there first ≤ there later
  there_more first later few =
      let more = rows_go_on columns outs (take first file) (drop first (take later file)) in
      let size : there later ≡ length (ended_rows columns outs (take first file) ++ more.0) = ap (λ (bytes : List ℕ). length (ended_rows columns outs bytes)) (rest_of first later file few) ∙ ap length more.1 in
      let both = length-append (ended_rows columns outs (take first file)) more.0 in
      omega (arith, size, both)

  all_kept : (calls : List Fetch) → AllByRecursion (λ (call : Fetch). there call.at < rows) calls → filter needed calls ≡ calls
  all_kept calls all = filter_all needed calls (all_weaker (λ (call : Fetch). there call.at < rows) (λ (call : Fetch). needed call ≡ true) calls (λ call less. lt-ltb (there call.at) rows less) all)

  -- none of those that are left is needed
  none_left : (name : List ℕ) (at : ℕ) → at ≤ length file → rows ≤ there at → filter needed (map (fetch_from name most_bytes) (fetch_places most_bytes (length file) at)) ≡ []
  none_left name at within enough =
      filter_none needed (map (fetch_from name most_bytes) (fetch_places most_bytes (length file) at))
      (all_map (λ (call : Fetch). needed call ≡ false) (fetch_from name most_bytes) (fetch_places most_bytes (length file) at)
      (all_weaker (λ (place : ℕ). at ≤ place) (λ (place : ℕ). needed (fetch_from name most_bytes place) ≡ false) (fetch_places most_bytes (length file) at)
      (λ place later. le-ltb (there place) rows (let more = there_more at place later in omega (arith, more, enough)))
      (left_later most_bytes (length file) at within)))

  -- needed fetches and others make all
  first_of : (calls rest all : List Fetch) → calls ++ rest ≡ all → AllByRecursion (λ (call : Fetch). there call.at < rows) calls → filter needed all ≡ calls ++ filter needed rest
  first_of calls rest all are less =
      sym (ap (filter needed) are) ∙ filter-append needed calls rest ∙ ap (λ (xs : List Fetch). xs ++ filter needed rest) (all_kept calls less)

module _ (whole : Bool) (held : Option (List ℕ)) (columns : List (List ℕ)) (outs : ℕ) (name : List ℕ) where
  -- some first fetches, each of which is needed, are some first of those that are
  pub in_part : (rows : ℕ) (calls : List Fetch) → IsFetchingPart whole held name most_bytes calls → AreNeeded held columns outs (Some rows) calls → AreFirstFetchesFor whole held columns outs rows name calls
  in_part rows calls part needs = record {
    part = part;
    exact = λ w. by held (part.exact w) needs;
  }
    where
      by : (told : Option (List ℕ)) → IfSome told (λ file. (k : ℕ) × (calls ≡ take k (fetches_of name most_bytes (length file)))) → AreNeeded told columns outs (Some rows) calls
          → IfSome told (λ file. (k : ℕ) × (calls ≡ take k (fetches_for columns outs rows name file)))
      by None some less = tt
      by (Some file) some less =
          let all = fetches_of name most_bytes (length file) in
          let rest = drop some.0 all in
          let are : calls ++ rest ≡ all = ap (λ (xs : List Fetch). xs ++ rest) some.1 ∙ take-append-drop some.0 all in
          let kept = first_of columns outs rows file calls rest all are less in
          (length calls, sym (ap (take (length calls)) kept ∙ take-append_seam calls (filter (needed columns outs rows file) rest)))

  module _ (first now : Option (List Fetch)) (given : List (List Bool)) where
    abbrev Needs : List Fetch → Type 0
    Needs = AreNeeded held columns outs (Some (length given))

    -- the text goes on, and these rows of it are known
    going : (text : TextScan) (rest : List (List Bool)) (bytes : List ℕ) → HasFetched held columns outs text bytes → given ++ rest ≡ ended_rows columns outs bytes
        → CameTo Needs whole held name text.fetched first now None → CameAs first now (AreFetchesFor whole held columns outs (length given) name)
    going text rest bytes fed known so = (
      so.0,
      so.1,
      record {
        part = part_of_going whole held name most_bytes text.fetched so.0 so.2.0;
        exact = λ w. by held fed.begins (so.2.0.left w) so.2.1;
      },
    )
      where
        by : (told : Option (List ℕ)) → IfSome told (λ file. bytes ≡ take (length bytes) file)
            → IfSome told (λ file. (text.fetched ≤ min (length file) (most_bytes + 1)) × (so.0 ++ map (fetch_from name most_bytes) (fetch_places most_bytes (length file) text.fetched) ≡ fetches_of name most_bytes (length file)))
            → AreNeeded told columns outs (Some (length given)) so.0 → IfSome told (λ file. so.0 ≡ fetches_for columns outs (length given) name file)
        by None begins left less = tt
        by (Some file) begins left less =
            let left_calls = map (fetch_from name most_bytes) (fetch_places most_bytes (length file) text.fetched) in
            let all = fetches_of name most_bytes (length file) in
            let kept = first_of columns outs (length given) file so.0 left_calls all left.1 less in
            let at : take text.fetched file ≡ bytes = ap (λ (n : ℕ). take n file) fed.long ∙ sym begins in
            let size : there columns outs (length given) file text.fetched ≡ length (given ++ rest) = ap (λ (bs : List ℕ). length (ended_rows columns outs bs)) at ∙ sym (ap length known) in
            let both = length-append given rest in
            let within = left.0 in
            let none = none_left columns outs (length given) file name text.fetched (omega (arith, within)) (omega (arith, size, both)) in
            sym (kept ∙ ap (λ (xs : List Fetch). so.0 ++ xs) none ∙ append-nil so.0)

    -- the text was fetched to its end
    ended : CameAs first now (λ calls. IsFetching whole held name most_bytes calls × Needs calls) → CameAs first now (AreFetchesFor whole held columns outs (length given) name)
    ended so = (
      so.0,
      so.1,
      record {
        part = part_of_all whole held name most_bytes so.0 so.2.0;
        exact = λ w. by held (so.2.0.exact w) so.2.1;
      },
    )
      where
        by : (told : Option (List ℕ)) → IfSome told (λ file. so.0 ≡ fetches_of name most_bytes (length file)) → AreNeeded told columns outs (Some (length given)) so.0
            → IfSome told (λ file. so.0 ≡ fetches_for columns outs (length given) name file)
        by None is less = tt
        by (Some file) is less = sym (ap (filter (needed columns outs (length given) file)) (sym is) ∙ all_kept columns outs (length given) file so.0 less)

    by_count : (text : TextScan) (count : Option ℕ) (rest : List (List Bool)) → Knows held columns outs text count (given ++ rest) → CameTo Needs whole held name text.fetched first now count
        → CameAs first now (AreFetchesFor whole held columns outs (length given) name)
    by_count text None rest knows so = going text rest knows.0 knows.1 knows.2 so
    by_count text (Some n) rest knows so = ended so

pub as_needed : FetchesAsNeeded
as_needed whole held columns outs first now feed given has so = by_count whole held columns outs feed.name first now given feed.text feed.text.count (reverse feed.rows.items) has.knows so

-- fetches that fewer rows need, more rows need
pub needed_for : (held : Option (List ℕ)) (columns : List (List ℕ)) (outs few many : ℕ) (calls : List Fetch) → few ≤ many → AreNeeded held columns outs (Some few) calls → AreNeeded held columns outs (Some many) calls
needed_for None columns outs few many calls least needs = tt
needed_for (Some file) columns outs few many calls least needs =
    all_weaker (λ (call : Fetch). length (ended_rows columns outs (take call.at file)) < few) (λ (call : Fetch). length (ended_rows columns outs (take call.at file)) < many) calls (λ call less. omega (arith, less, least)) needs

module _ (whole : Bool) (held : Option (List ℕ)) (columns : List (List ℕ)) (outs : ℕ) (first now : Option (List Fetch)) where
  -- a feed that fetched for fewer rows
  pub feeds_for : (feed : RowFeed) (few many : ℕ) → few ≤ many → FeedsBy whole held columns outs (Some few) first now feed → FeedsBy whole held columns outs (Some many) first now feed
  feeds_for feed few many least so = by feed.text.count so
    where
      by : (count : Option ℕ) → CameTo (AreNeeded held columns outs (Some few)) whole held feed.name feed.text.fetched first now count → CameTo (AreNeeded held columns outs (Some many)) whole held feed.name feed.text.fetched first now count
      by None came = (came.0, came.1, (came.2.0, needed_for held columns outs few many came.0 least came.2.1))
      by (Some n) came = (came.0, came.1, (came.2.0, needed_for held columns outs few many came.0 least came.2.1))

  -- its fetches so far are some first of those that so many rows need
  pub feeds_in_part : (feed : RowFeed) (rows : ℕ) → FeedsBy whole held columns outs (Some rows) first now feed → CameAs first now (AreFirstFetchesFor whole held columns outs rows feed.name)
  feeds_in_part feed rows so = by feed.text.count so
    where
      by : (count : Option ℕ) → CameTo (AreNeeded held columns outs (Some rows)) whole held feed.name feed.text.fetched first now count → CameAs first now (AreFirstFetchesFor whole held columns outs rows feed.name)
      by None came = (came.0, came.1, in_part whole held columns outs feed.name rows came.0 (part_of_going whole held feed.name most_bytes feed.text.fetched came.0 came.2.0) came.2.1)
      by (Some n) came = (came.0, came.1, in_part whole held columns outs feed.name rows came.0 (part_of_all whole held feed.name most_bytes came.0 came.2.0) came.2.1)
