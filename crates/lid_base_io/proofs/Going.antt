-- The fetches of a file, call by call.
use Rattle.std.proofs.Common.{◌≡◌, ◌⊎◌, ℕ, suc, ◌+◌, ◌-◌, ◌<◌, ◌≤◌, min, nat_le, Bool, true, false, if◌then◌else◌, List, [], ◌∷◌, ◌++◌, length, take, map, Option, Some, None, inl, inr, refl, sym, ◌∙◌, ap, subst, append_assoc, append-nil, arith}
use Rattle.std.specs.Option.{IfSome}
use Rattle.std.proofs.lemmas.List.{map_push, length_push}
use Rattle.lid_base_io.specs.Transfer.{FetchedNext}
use Rattle.lid_base_io.specs.Calls.{CameAs, pieces_in, places_from, fetch_places, fetch_from, fetches_of, Rise, AreFetches, IsFetching, IsFetchingPart, FetchesSoFar}
use Rattle.lid_base.specs.declared.outside.Fetch.{Fetch}
use Rattle.lid_base.specs.Outside.{Came, one_fetch}
use Rattle.lid_base_io.proofs.Came.{both_came, none_came, begins_with}
use Rattle.lid_base_io.proofs.Fetches.{below_or_not, given}

-- after a fetch of some bytes, as many as there is room for or as are left, the next place follows
places_next : (limit size at n : ℕ) → at ≤ limit → 0 < n → n ≡ min (min 65536 (limit + 1 - at)) (size - at) → fetch_places limit size at ≡ at ∷ fetch_places limit size (at + n)
places_next limit size at n within some is =
    let count : pieces_in (min size (limit + 1) - at) ≡ suc (pieces_in (min size (limit + 1) - (at + n))) = omega arith in
    ap (λ (k : ℕ). places_from k at ++ last) count ∙ ap (λ (places : List ℕ). at ∷ (places ++ last)) (from_there (below_or_not n 65536))
  where
    last : List ℕ
    last = if nat_le size limit then size ∷ [] else []

    from_there : (n < 65536) ⊎ (65536 ≤ n) → places_from (pieces_in (min size (limit + 1) - (at + n))) (at + 65536) ≡ places_from (pieces_in (min size (limit + 1) - (at + n))) (at + n)
    from_there (inl less) =
        let none : pieces_in (min size (limit + 1) - (at + n)) ≡ 0 = omega arith in
        ap (λ (k : ℕ). places_from k (at + 65536)) none ∙ sym (ap (λ (k : ℕ). places_from k (at + n)) none)
    from_there (inr more) =
        let full : at + 65536 ≡ at + n = omega arith in
        ap (λ (place : ℕ). places_from (pieces_in (min size (limit + 1) - (at + n))) place) full

-- the fetch at the end of the file is the last
places_last : (limit size at : ℕ) → at ≤ limit → at ≡ size → fetch_places limit size at ≡ at ∷ []
places_last limit size at within end =
    let none : pieces_in (min size (limit + 1) - at) ≡ 0 = omega arith in
    let short : nat_le size limit ≡ true = grind arith in
    ap (λ (k : ℕ). places_from k at ++ (if nat_le size limit then size ∷ [] else [])) none
    ∙ ap (λ (b : Bool). if b then size ∷ [] else []) short ∙ ap (λ (k : ℕ). k ∷ []) (sym end)

-- none follows the byte past the limit
places_done : (limit size at : ℕ) → limit < at → at ≤ min size (limit + 1) → fetch_places limit size at ≡ []
places_done limit size at past within =
    let none : pieces_in (min size (limit + 1) - at) ≡ 0 = omega arith in
    let long : nat_le size limit ≡ false = grind arith in
    ap (λ (k : ℕ). places_from k at ++ (if nat_le size limit then size ∷ [] else [])) none
    ∙ ap (λ (b : Bool). if b then size ∷ [] else []) long

-- within the limit there is a next fetch
places_some : (limit size at : ℕ) → at ≤ limit → at ≤ size → (rest : List ℕ) × (fetch_places limit size at ≡ at ∷ rest)
places_some limit size at within here = by (below_or_not at size)
  where
    by : (at < size) ⊎ (size ≤ at) → (rest : List ℕ) × (fetch_places limit size at ≡ at ∷ rest)
    by (inl before) =
        let n : ℕ = min (min 65536 (limit + 1 - at)) (size - at) in
        (fetch_places limit size (at + n), places_next limit size at n within (omega arith) refl)
    by (inr over) = ([], places_last limit size at within (omega arith))

rise_next : (limit at n : ℕ) (later : List ℕ) → 0 < n → n ≤ 65536 → Rise limit (at + n) (at + n) later → Rise limit (at + 1) (at + 65536) later
rise_next limit at n [] some few h = tt
rise_next limit at n (place ∷ later) some few h = (let least = h.0 in omega arith, let most = h.1 in omega arith, h.2, h.3)

pub going_begins : (whole : Bool) (held : Option (List ℕ)) (name : List ℕ) (limit : ℕ) → FetchesSoFar whole held name limit 0 []
going_begins whole held name limit = record {
  places = [];
  are = refl;
  rise = λ later h. h;
  some = λ more. absurd (omega arith);
  left = λ w. by held;
}
  where
    by : (held : Option (List ℕ)) → IfSome held (λ file. (0 ≤ min (length file) (limit + 1)) × ([] ++ map (fetch_from name limit) (fetch_places limit (length file) 0) ≡ fetches_of name limit (length file)))
    by None = tt
    by (Some file) = (omega arith, refl)

module _ (whole : Bool) (held : Option (List ℕ)) (name : List ℕ) (limit at : ℕ) (calls : List Fetch) (within : at ≤ limit) (so : FetchesSoFar whole held name limit at calls) where
  more_are : calls ++ fetch_from name limit at ∷ [] ≡ map (fetch_from name limit) (so.places ++ at ∷ [])
  more_are = ap (λ (cs : List Fetch). cs ++ fetch_from name limit at ∷ []) so.are ∙ sym (map_push (fetch_from name limit) so.places at)

  -- the fetches with one more
  one_more : AreFetches name limit (calls ++ fetch_from name limit at ∷ [])
  one_more = record {
    places = so.places ++ at ∷ [];
    rise = so.rise (at ∷ []) (omega arith, omega arith, within, tt);
    are = more_are;
  }

  -- a fetch gave some bytes
  pub going_on : (n : ℕ) → 0 < n → n ≤ 65536 → (whole ≡ true → IfSome held (λ file. n ≡ min (min 65536 (limit + 1 - at)) (length file - at))) → FetchesSoFar whole held name limit (at + n) (calls ++ fetch_from name limit at ∷ [])
  going_on n some few gives = record {
    places = so.places ++ at ∷ [];
    are = more_are;
    rise = λ later h. subst (Rise limit 0 0) (sym (append_assoc so.places (at ∷ []) later)) (so.rise (at ∷ later) (omega arith, omega arith, within, rise_next limit at n later some few h));
    some = λ _. let size = length_push calls (fetch_from name limit at) in omega arith;
    left = λ w. by held (gives w) (so.left w);
  }
    where
      by : (held : Option (List ℕ)) → IfSome held (λ file. n ≡ min (min 65536 (limit + 1 - at)) (length file - at))
          → IfSome held (λ file. (at ≤ min (length file) (limit + 1)) × (calls ++ map (fetch_from name limit) (fetch_places limit (length file) at) ≡ fetches_of name limit (length file)))
          → IfSome held (λ file. (at + n ≤ min (length file) (limit + 1)) × ((calls ++ fetch_from name limit at ∷ []) ++ map (fetch_from name limit) (fetch_places limit (length file) (at + n)) ≡ fetches_of name limit (length file)))
      by None is left = tt
      by (Some file) is left = (
        let before = left.0 in omega arith,
        append_assoc calls (fetch_from name limit at ∷ []) (map (fetch_from name limit) (fetch_places limit (length file) (at + n)))
            ∙ ap (λ (places : List ℕ). calls ++ map (fetch_from name limit) places) (sym (places_next limit (length file) at n within some is))
            ∙ left.1,
      )

  -- a fetch gave no bytes
  pub going_ended : (whole ≡ true → IfSome held (λ file. 0 ≡ min (min 65536 (limit + 1 - at)) (length file - at))) → IsFetching whole held name limit (calls ++ fetch_from name limit at ∷ [])
  going_ended gives = record {
    some = let size = length_push calls (fetch_from name limit at) in omega arith;
    named = one_more;
    exact = λ w. by held (gives w) (so.left w);
  }
    where
      by : (held : Option (List ℕ)) → IfSome held (λ file. 0 ≡ min (min 65536 (limit + 1 - at)) (length file - at))
          → IfSome held (λ file. (at ≤ min (length file) (limit + 1)) × (calls ++ map (fetch_from name limit) (fetch_places limit (length file) at) ≡ fetches_of name limit (length file)))
          → IfSome held (λ file. calls ++ fetch_from name limit at ∷ [] ≡ fetches_of name limit (length file))
      by None is left = tt
      by (Some file) is left =
          let end : at ≡ length file = (let before = left.0 in omega arith) in
          ap (λ (places : List ℕ). calls ++ map (fetch_from name limit) places) (sym (places_last limit (length file) at within end)) ∙ left.1

  -- a fetch was made, and then something failed
  pub going_stopped : IsFetchingPart whole held name limit (calls ++ fetch_from name limit at ∷ [])
  going_stopped = record {
    named = one_more;
    exact = λ w. by held (so.left w);
  }
    where
      by : (held : Option (List ℕ)) → IfSome held (λ file. (at ≤ min (length file) (limit + 1)) × (calls ++ map (fetch_from name limit) (fetch_places limit (length file) at) ≡ fetches_of name limit (length file)))
          → IfSome held (λ file. (k : ℕ) × (calls ++ fetch_from name limit at ∷ [] ≡ take k (fetches_of name limit (length file))))
      by None left = tt
      by (Some file) left =
          let next = places_some limit (length file) at within (let before = left.0 in omega arith) in
          let whole_list : (calls ++ fetch_from name limit at ∷ []) ++ map (fetch_from name limit) next.0 ≡ fetches_of name limit (length file) =
          append_assoc calls (fetch_from name limit at ∷ []) (map (fetch_from name limit) next.0)
          ∙ ap (λ (places : List ℕ). calls ++ map (fetch_from name limit) places) (sym next.1) ∙ left.1 in
          (length (calls ++ fetch_from name limit at ∷ []), begins_with (calls ++ fetch_from name limit at ∷ []) (map (fetch_from name limit) next.0) (fetches_of name limit (length file)) whole_list)

-- one byte more than the limit was fetched
pub going_full : (whole : Bool) (held : Option (List ℕ)) (name : List ℕ) (limit at : ℕ) (calls : List Fetch) → limit < at → FetchesSoFar whole held name limit at calls → IsFetching whole held name limit calls
going_full whole held name limit at calls past so = record {
  some = so.some (omega arith);
  named = record {
    places = so.places;
    rise = subst (Rise limit 0 0) (append-nil so.places) (so.rise [] tt);
    are = so.are;
  };
  exact = λ w. by held (so.left w);
}
  where
    by : (held : Option (List ℕ)) → IfSome held (λ file. (at ≤ min (length file) (limit + 1)) × (calls ++ map (fetch_from name limit) (fetch_places limit (length file) at) ≡ fetches_of name limit (length file)))
        → IfSome held (λ file. calls ≡ fetches_of name limit (length file))
    by None left = tt
    by (Some file) left =
        sym (append-nil calls)
        ∙ ap (λ (places : List ℕ). calls ++ map (fetch_from name limit) places) (sym (places_done limit (length file) at past left.0)) ∙ left.1

-- nothing was fetched
pub none_fetched : (whole : Bool) (held : Option (List ℕ)) (name : List ℕ) (limit : ℕ) → IsFetchingPart whole held name limit []
none_fetched whole held name limit = record {
  named = record { places = []; rise = tt; are = refl };
  exact = λ w. by held;
}
  where
    by : (held : Option (List ℕ)) → IfSome held (λ file. (k : ℕ) × ([] ≡ take k (fetches_of name limit (length file))))
    by None = tt
    by (Some file) = (0, refl)

-- what the shelf tells: before the first fetch
pub begins_as : (whole : Bool) (held : Option (List ℕ)) (name : List ℕ) (limit : ℕ) (old : Option (List Fetch)) → CameAs old old (FetchesSoFar whole held name limit 0)
begins_as whole held name limit old = ([], none_came old, going_begins whole held name limit)

pub none_as : (whole : Bool) (held : Option (List ℕ)) (name : List ℕ) (limit : ℕ) (old : Option (List Fetch)) → CameAs old old (IsFetchingPart whole held name limit)
none_as whole held name limit old = ([], none_came old, none_fetched whole held name limit)

-- after a fetch that comes after these bytes
module _ (whole : Bool) (held : Option (List ℕ)) (name : List ℕ) (limit room : ℕ) (bytes : List ℕ) (old now new : Option (List Fetch)) (within : length bytes ≤ limit) (is : room ≡ min 65536 (limit + 1 - length bytes)) (so : CameAs old now (FetchesSoFar whole held name limit (length bytes))) (came : Came now new (one_fetch name (length bytes) room)) where
  came_too : Came old new (so.0 ++ fetch_from name limit (length bytes) ∷ [])
  came_too = both_came old now new so.0 (fetch_from name limit (length bytes) ∷ []) so.1 (subst (λ (k : ℕ). Came now new (one_fetch name (length bytes) k)) is came)

  pub stopped_as : CameAs old new (IsFetchingPart whole held name limit)
  stopped_as = (so.0 ++ fetch_from name limit (length bytes) ∷ [], came_too, going_stopped whole held name limit (length bytes) so.0 within so.2)

  gives : (more : List ℕ) (n : ℕ) → length more ≡ length bytes + n → FetchedNext whole held bytes more room → whole ≡ true → IfSome held (λ file. n ≡ min (min 65536 (limit + 1 - length bytes)) (length file - length bytes))
  gives more n size next w = subst (λ (k : ℕ). IfSome held (λ file. n ≡ min k (length file - length bytes))) is (given whole held bytes more room n size next w)

  pub goes_on_as : (more : List ℕ) (n : ℕ) → 0 < n → n ≤ room → length more ≡ length bytes + n → FetchedNext whole held bytes more room → CameAs old new (FetchesSoFar whole held name limit (length more))
  goes_on_as more n some few size next = (
    so.0 ++ fetch_from name limit (length bytes) ∷ [],
    came_too,
    subst (λ (at : ℕ). FetchesSoFar whole held name limit at (so.0 ++ fetch_from name limit (length bytes) ∷ [])) (sym size)
        (going_on whole held name limit (length bytes) so.0 within so.2 n some (omega arith) (gives more n size next)),
  )

  pub ended_as : (more : List ℕ) → length more ≡ length bytes + 0 → FetchedNext whole held bytes more room → CameAs old new (IsFetching whole held name limit)
  ended_as more size next =
      (so.0 ++ fetch_from name limit (length bytes) ∷ [], came_too, going_ended whole held name limit (length bytes) so.0 within so.2 (gives more 0 size next))

pub full_as : (whole : Bool) (held : Option (List ℕ)) (name : List ℕ) (limit at : ℕ) (old now : Option (List Fetch)) → limit < at → CameAs old now (FetchesSoFar whole held name limit at) → CameAs old now (IsFetching whole held name limit)
full_as whole held name limit at old now past so = (so.0, so.1, going_full whole held name limit at so.0 past so.2)

-- what was fetched so far is some first of it
pub part_of_going : (whole : Bool) (held : Option (List ℕ)) (name : List ℕ) (limit at : ℕ) (calls : List Fetch) → FetchesSoFar whole held name limit at calls → IsFetchingPart whole held name limit calls
part_of_going whole held name limit at calls so = record {
  named = record {
    places = so.places;
    rise = subst (Rise limit 0 0) (append-nil so.places) (so.rise [] tt);
    are = so.are;
  };
  exact = λ w. by held (so.left w);
}
  where
    by : (held : Option (List ℕ)) → IfSome held (λ file. (at ≤ min (length file) (limit + 1)) × (calls ++ map (fetch_from name limit) (fetch_places limit (length file) at) ≡ fetches_of name limit (length file)))
        → IfSome held (λ file. (k : ℕ) × (calls ≡ take k (fetches_of name limit (length file))))
    by None left = tt
    by (Some file) left = (length calls, begins_with calls (map (fetch_from name limit) (fetch_places limit (length file) at)) (fetches_of name limit (length file)) left.1)

-- all fetches of a file are some first of them
pub part_of_all : (whole : Bool) (held : Option (List ℕ)) (name : List ℕ) (limit : ℕ) (calls : List Fetch) → IsFetching whole held name limit calls → IsFetchingPart whole held name limit calls
part_of_all whole held name limit calls made = record {
  named = made.named;
  exact = λ w. by held (made.exact w);
}
  where
    by : (held : Option (List ℕ)) → IfSome held (λ file. calls ≡ fetches_of name limit (length file)) → IfSome held (λ file. (k : ℕ) × (calls ≡ take k (fetches_of name limit (length file))))
    by None e = tt
    by (Some file) e = (length calls, begins_with calls [] (fetches_of name limit (length file)) (append-nil calls ∙ e))
