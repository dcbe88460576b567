-- The fetches of a text that is taken piece by piece.
use Rattle.std.proofs.Common.{◌≡◌, ℕ, zero, suc, ◌+◌, ◌-◌, ◌<◌, ◌≤◌, min, nat_lt, Bool, true, false, true≢false, List, [], ◌∷◌, ◌++◌, length, take, Option, Some, None, IfSome, Result, Ok, Err, IfErr, OnOk, refl, sym, ◌∙◌, subst, arith}
use Rattle.std.specs.Prelude.{IsSome}
use Rattle.lid_base.specs.declared.outside.Fetch.{Fetch}
use Rattle.lid_base.specs.Outside.{Came, one_fetch}
use Rattle.lid_base.proofs.Lists.{all_append}
use Rattle.lid_base_io.specs.Calls.{CameAs, fetch_from, FetchesSoFar, IsFetching}
use Rattle.lid_base_io.specs.Transfer.{FetchedNext}
use Rattle.lid_base_io.specs.declared.fetching.FetchFault.{FetchFault}
use Rattle.lid_base_io.specs.declared.fetching.FetchFault.TheVariants as fetching
use Rattle.lid_base_io.proofs.Came.{none_came, both_came}
use Rattle.lid_base_io.proofs.Fetches.{given}
use Rattle.lid_base_io.proofs.Going.{going_begins, going_on, going_ended, going_stopped, going_full, part_of_going, part_of_all}
use Rattle.lid_texts.specs.Scans.{ended_rows}
use Rattle.lid_texts_feed.specs.declared.fault.FeedFault.{FeedFault}
use Rattle.lid_texts_feed.specs.declared.fault.FeedFault.TheVariants.{Read, Memory, Refused}
use Rattle.lid_texts_feed.specs.Feeds.{most_bytes, IsFetchedFor, UnlessRead}
use Rattle.lid_texts_feed.specs.Fetching.{BeginsFile, AreNeeded, CameSo, CameTo, CameInPart, IsBelowAsked, fetch_fault}

pub unless_read : {A P : Type 0} (r : Result A FeedFault) → P → IfErr r (UnlessRead P)
unless_read (Ok a) p = tt
unless_read (Err Read) p = tt
unless_read (Err Memory) p = p
unless_read (Err (Refused fault)) p = p

pub unless_later : {P Q : Type 0} → (P → Q) → (e : FeedFault) → UnlessRead P e → UnlessRead Q e
unless_later f Read p = tt
unless_later f Memory p = f p
unless_later f (Refused fault) p = f p

-- a file and its name by other words
pub elsewhere : {h k : Option (List ℕ)} {n m : List ℕ} (P : Option (List ℕ) → List ℕ → Type 0) → h ≡ k → n ≡ m → P h n → P k m
elsewhere {k = k} {n = n} P same named p = subst (P k) named (subst (λ (o : Option (List ℕ)). P o n) same p)

-- a piece that could not be had
pub unread_still : {P : Type 0} (fault : FetchFault) → (fault ≡ fetching.Memory → P) → UnlessRead P (fetch_fault fault)
unread_still fetching.Read p = tt
unread_still fetching.Memory p = p refl

-- fetches that are needed
pub none_needed : (held : Option (List ℕ)) (columns : List (List ℕ)) (outs : ℕ) (asked : Option ℕ) → AreNeeded held columns outs asked []
none_needed held columns outs None = tt
none_needed None columns outs (Some rows) = tt
none_needed (Some file) columns outs (Some rows) = tt

-- and one more, after these bytes
pub needed_more : (held : Option (List ℕ)) (columns : List (List ℕ)) (outs : ℕ) (asked : Option ℕ) (name bytes : List ℕ) → BeginsFile held bytes → IsBelowAsked asked (length (ended_rows columns outs bytes)) → (calls : List Fetch)
    → AreNeeded held columns outs asked calls → AreNeeded held columns outs asked (calls ++ fetch_from name most_bytes (length bytes) ∷ [])
needed_more held columns outs None name bytes begins below calls needed = tt
needed_more None columns outs (Some rows) name bytes begins below calls needed = tt
needed_more (Some file) columns outs (Some rows) name bytes begins below calls needed =
    all_append (λ (call : Fetch). length (ended_rows columns outs (take call.at file)) < rows) calls (fetch_from name most_bytes (length bytes) ∷ []) needed
    (subst (λ (some : List ℕ). length (ended_rows columns outs some) < rows) begins below, tt)

module _ (Also : List Fetch → Type 0) (whole : Bool) (held : Option (List ℕ)) (name : List ℕ) (first : Option (List Fetch)) where
  pub going_in_part : (now : Option (List Fetch)) (at : ℕ) → CameSo Also whole held name at first now true → CameInPart Also whole held name first now
  going_in_part now at so = (so.0, so.1, (part_of_going whole held name most_bytes at so.0 so.2.0, so.2.1))

  pub came_begins : (at : ℕ) (count : Option ℕ) → at ≡ 0 → count ≡ None → Also [] → CameTo Also whole held name at first first count
  came_begins at count begins none also =
      subst (CameTo Also whole held name at first first) (sym none)
      (subst (λ (k : ℕ). CameTo Also whole held name k first first None) (sym begins) ([], none_came first, (going_begins whole held name most_bytes, also)))

  -- as much was fetched as ever is
  pub came_full : (now : Option (List Fetch)) (at later : ℕ) → most_bytes < at → CameSo Also whole held name at first now true → CameSo Also whole held name later first now false
  came_full now at later past so = (so.0, so.1, (going_full whole held name most_bytes at so.0 past so.2.0, so.2.1))

  -- after a fetch that comes after these bytes
  module _ (now new : Option (List Fetch)) (bytes : List ℕ) (room : ℕ) (within : length bytes ≤ most_bytes) (is : room ≡ min 65536 (most_bytes + 1 - length bytes)) (so : CameSo Also whole held name (length bytes) first now true)
      (came : Came now new (one_fetch name (length bytes) room)) (grows : (calls : List Fetch) → Also calls → Also (calls ++ fetch_from name most_bytes (length bytes) ∷ [])) where
    abbrev with_one : List Fetch
    with_one = so.0 ++ fetch_from name most_bytes (length bytes) ∷ []

    came_too : Came first new with_one
    came_too = both_came first now new so.0 (fetch_from name most_bytes (length bytes) ∷ []) so.1 (subst (λ (k : ℕ). Came now new (one_fetch name (length bytes) k)) is came)

    pub came_stopped : CameInPart Also whole held name first new
    came_stopped = (with_one, came_too, (going_stopped whole held name most_bytes (length bytes) so.0 within so.2.0, grows so.0 so.2.1))

    -- it gave so many
    pub came_on : (more : List ℕ) (at n : ℕ) → n ≤ room → length more ≡ length bytes + n → FetchedNext whole held bytes more room → at ≡ length bytes + n → CameSo Also whole held name at first new (nat_lt 0 n)
    came_on more at n few size next there = by (nat_lt 0 n) refl
      where
        some_of : (k : ℕ) → nat_lt 0 k ≡ true → 0 < k
        some_of zero e = absurd (let f : nat_lt 0 zero ≡ false = grind arith in let c : true ≡ false = sym e ∙ f in cc)
        some_of (suc k) e = omega arith

        none_of : (k : ℕ) → nat_lt 0 k ≡ false → k ≡ 0
        none_of zero e = refl
        none_of (suc k) e = absurd (let f : nat_lt 0 (suc k) ≡ true = grind arith in let c : true ≡ false = sym f ∙ e in cc)

        gives : whole ≡ true → IfSome held (λ file. n ≡ min (min 65536 (most_bytes + 1 - length bytes)) (length file - length bytes))
        gives w = subst (λ (k : ℕ). IfSome held (λ file. n ≡ min k (length file - length bytes))) is (given whole held bytes more room n size next w)

        by : (b : Bool) → nat_lt 0 n ≡ b → CameSo Also whole held name at first new b
        by true e = (
          with_one,
          came_too,
          (
            subst (λ (k : ℕ). FetchesSoFar whole held name most_bytes k with_one) (sym there) (going_on whole held name most_bytes (length bytes) so.0 within so.2.0 n (some_of n e) (omega arith) gives),
            grows so.0 so.2.1,
          ),
        )
        by false e = (
          with_one,
          came_too,
          (
            going_ended whole held name most_bytes (length bytes) so.0 within so.2.0 (subst (λ (k : ℕ). whole ≡ true → IfSome held (λ file. k ≡ min (min 65536 (most_bytes + 1 - length bytes)) (length file - length bytes))) (none_of n e) gives),
            grows so.0 so.2.1,
          ),
        )

  abbrev Fails : Option (List Fetch) → FeedFault → Type 0
  Fails now fault = CameAs first now (λ calls. IsFetchedFor whole held name fault calls × Also calls)

  -- a piece could not be had
  pub for_piece : (now : Option (List Fetch)) (fault : FetchFault) → CameInPart Also whole held name first now → Fails now (fetch_fault fault)
  for_piece now fetching.Read part = part
  for_piece now fetching.Memory part = part

  -- a text that was fetched whole stands for no rows
  pub for_text : (now : Option (List Fetch)) (at : ℕ) (fault : FeedFault) → CameSo Also whole held name at first now false → Fails now fault
  for_text now at Read so = (so.0, so.1, (part_of_all whole held name most_bytes so.0 so.2.0, so.2.1))
  for_text now at Memory so = (so.0, so.1, (part_of_all whole held name most_bytes so.0 so.2.0, so.2.1))
  for_text now at (Refused fault) so = so

  pub for_texts : {A : Type 0} (now : Option (List Fetch)) (at : ℕ) (r : Result A FeedFault) → CameSo Also whole held name at first now false → IfErr r (Fails now)
  for_texts now at (Ok a) so = tt
  for_texts now at (Err e) so = for_text now at e so

  -- it has been found how many rows there are
  pub came_all : {A E : Type 0} (now : Option (List Fetch)) (at later : ℕ) (r : Result A E) (count : Option ℕ) → OnOk r (IsSome count) → CameSo Also whole held name at first now false → OnOk r (CameTo Also whole held name later first now count)
  came_all now at later (Ok a) None some so = absurd (true≢false (sym some))
  came_all now at later (Ok a) (Some n) some so = so
  came_all now at later (Err e) count some so = tt

  -- or it has not
  pub came_more : (now : Option (List Fetch)) (at : ℕ) (more : Bool) (count : Option ℕ) → more ≡ true → count ≡ None → CameSo Also whole held name at first now more → CameTo Also whole held name at first now count
  came_more now at more count on none so = subst (CameTo Also whole held name at first now) (sym none) (subst (CameSo Also whole held name at first now) on so)

  pub came_last : (now : Option (List Fetch)) (at : ℕ) (more : Bool) → more ≡ false → CameSo Also whole held name at first now more → CameSo Also whole held name at first now false
  came_last now at more off so = subst (CameSo Also whole held name at first now) off so

  pub came_whole : (now : Option (List Fetch)) (at n : ℕ) (count : Option ℕ) → count ≡ Some n → CameTo Also whole held name at first now count → CameAs first now (IsFetching whole held name most_bytes)
  came_whole now at n count is so = let all = subst (CameTo Also whole held name at first now) is so in (all.0, all.1, all.2.0)

  -- the place of a text whose bytes so far are known
  pub came_at : (now : Option (List Fetch)) (at : ℕ) (count : Option ℕ) (bytes : List ℕ) → count ≡ None → at ≡ length bytes → CameTo Also whole held name at first now count → CameSo Also whole held name (length bytes) first now true
  came_at now at count bytes none long so = subst (λ (k : ℕ). CameTo Also whole held name k first now None) long (subst (CameTo Also whole held name at first now) none so)
