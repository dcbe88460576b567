-- The nets of a model by the numbers of its names: where clock names are marked, the numbers of those that are not, and
-- the places that these take.
use Rattle.std.proofs.Common.{◌≡◌, ℕ, suc, ◌+◌, Bool, true, false, ◌||◌, not, cond, List, [], ◌∷◌, ◌++◌, length, length-append, get_or, map, filter, position, Option, Some, None, slice_get, refl, sym, ◌∙◌, ap, subst, inl, inr, append_assoc, add-zero, arith}
use Rattle.std.specs.List.{list_any, position_from, cons_option}
use Rattle.std.specs.Str.{bytes_eq}
use Rattle.std.proofs.lemmas.List.Quantifiers.{position-Some}
use Rattle.std.proofs.lemmas.Iterator.Adapters.{position_from-zero}
use Rattle.lid_base.specs.Lists.{Among, AreOnce}
use Rattle.lid_base.proofs.Lists.{same_bytes, bytes_same, map_same, any_true, any_some, get_among, filter_among, among_one}
use Rattle.lid_base.proofs.Places.{get_map, get_past, item_read}
use Rattle.lid_check_names.proofs.Lists.{is_among_append}
use Rattle.lid_design.specs.declared.Model.{Model}
use Rattle.lid_design.specs.Columns.{is_among}
use Rattle.lid_design.specs.Models.{occurrences}
use Rattle.lid_check_table.specs.Tables.{names_in, AreNumbersOf}
use Rattle.lid_check_table.specs.Marks.{marks_of}
use Rattle.lid_check_table.proofs.Marking.{firsts_once}
use Rattle.lid_check_hierarchy.specs.Nets.{names_outside, net_places, numbers_of, places_of_false, counts_of_false}

-- the test by which a name is found at a number from k on
position_is : (p : List ℕ → Bool) (names : List (List ℕ)) → position p names ≡ position_from p 0 names
position_is p names = position_from-zero p names

none_from : (p : List ℕ → Bool) (k : ℕ) (names : List (List ℕ)) → list_any p names ≡ false → position_from p k names ≡ None
none_from p k [] h = refl
none_from p k (n ∷ ns) h = by (p n) refl h (none_from p (k + 1) ns)
  where
    by : (b : Bool) → p n ≡ b → (b || list_any p ns) ≡ false → (list_any p ns ≡ false → position_from p (k + 1) ns ≡ None) → cond b (Some k) (position_from p (k + 1) ns) ≡ None
    by true e h later = absurd (let f : true ≡ false = h in cc)
    by false e h later = later h

past_from : (p : List ℕ → Bool) (k : ℕ) (xs ys : List (List ℕ)) (x : List ℕ) → list_any p xs ≡ false → p x ≡ true → position_from p k (xs ++ x ∷ ys) ≡ Some (k + length xs)
past_from p k [] ys x none here = ap (λ (b : Bool). cond b (Some k) (position_from p (k + 1) ys)) here ∙ ap Some (sym (add-zero k))
past_from p k (n ∷ ns) ys x none here = by (p n) refl none (λ h. past_from p (k + 1) ns ys x h here)
  where
    by : (b : Bool) → p n ≡ b → (b || list_any p ns) ≡ false → (list_any p ns ≡ false → position_from p (k + 1) (ns ++ x ∷ ys) ≡ Some (k + 1 + length ns)) → cond b (Some k) (position_from p (k + 1) (ns ++ x ∷ ys)) ≡ Some (k + suc (length ns))
    by true e h later = absurd (let f : true ≡ false = h in cc)
    by false e h later = later h ∙ ap Some (omega arith)

-- a name that stands in no list has no place there
pub no_place : (name : List ℕ) (names : List (List ℕ)) → is_among name names ≡ false → position (bytes_eq name) names ≡ None
no_place name names h = position_is (bytes_eq name) names ∙ none_from (bytes_eq name) 0 names h

-- and a name that comes first after some others has the place of their number
place_past : (name : List ℕ) (xs ys : List (List ℕ)) → is_among name xs ≡ false → position (bytes_eq name) (xs ++ name ∷ ys) ≡ Some (length xs)
place_past name xs ys new = position_is (bytes_eq name) (xs ++ name ∷ ys) ∙ past_from (bytes_eq name) 0 xs ys name new (bytes_same name name refl) ∙ ap Some (omega arith)

-- a name stands at its place
pub place_there : (name : List ℕ) (names : List (List ℕ)) (i : ℕ) → position (bytes_eq name) names ≡ Some i → slice_get names i ≡ Some name
place_there name names i at =
    let found = position-Some (bytes_eq name) names i name at in
    let is : name ≡ get_or names i name = same_bytes name (get_or names i name) found.1 in
    item_read names i name found.0 is

some_from : (p : List ℕ → Bool) (k : ℕ) (names : List (List ℕ)) → list_any p names ≡ true → position_from p k names ≡ None → ⊥
some_from p k [] there none = let f : false ≡ true = there in cc
some_from p k (n ∷ ns) there none = by (p n) there none (some_from p (k + 1) ns)
  where
    by : (b : Bool) → (b || list_any p ns) ≡ true → cond b (Some k) (position_from p (k + 1) ns) ≡ None → (list_any p ns ≡ true → position_from p (k + 1) ns ≡ None → ⊥) → ⊥
    by true there none later = let f : Some k ≡ None = none in cc
    by false there none later = later there none

-- the numbers of those names of a list that are among others lead to these names
pub known_numbers : (names list : List (List ℕ)) → AreNumbersOf names (filter (λ n. is_among n names) list) (numbers_of names list)
known_numbers names [] = refl
known_numbers names (n ∷ ns) = by (position (bytes_eq n) names) refl (is_among n names) refl (known_numbers names ns)
  where
    kept : List (List ℕ)
    kept = filter (λ n. is_among n names) ns

    by : (o : Option ℕ) → position (bytes_eq n) names ≡ o → (b : Bool) → is_among n names ≡ b → map (slice_get names) (numbers_of names ns) ≡ map Some (filter (λ n. is_among n names) ns) → map (slice_get names) (cons_option o (numbers_of names ns)) ≡ map Some (cond b (n ∷ filter (λ n. is_among n names) ns) (filter (λ n. is_among n names) ns))
    by (Some i) at true there rest =
        ap (λ o. o ∷ map (slice_get names) (numbers_of names ns)) (place_there n names i at) ∙ ap (λ os. Some n ∷ os) rest
    by (Some i) at false missing rest =
        let there : is_among n names ≡ true = any_true (bytes_eq n) names n (get_among names i n (place_there n names i at)) (bytes_same n n refl) in
        absurd (let f : true ≡ false = sym there ∙ missing in cc)
    by None at true there rest = absurd (some_from (bytes_eq n) 0 names there (sym (position_is (bytes_eq n) names) ∙ at))
    by None at false missing rest = rest

-- a name that a test takes stands among those of a list that it takes exactly where it stands in the list
among_kept : (p : List ℕ → Bool) (n : List ℕ) (list : List (List ℕ)) → p n ≡ true → is_among n (filter p list) ≡ is_among n list
among_kept p n [] takes = refl
among_kept p n (x ∷ xs) takes = by (p x) refl (bytes_eq n x) refl (among_kept p n xs takes)
  where
    by : (b : Bool) → p x ≡ b → (a : Bool) → bytes_eq n x ≡ a → is_among n (filter p xs) ≡ is_among n xs → is_among n (cond b (x ∷ filter p xs) (filter p xs)) ≡ (a || is_among n xs)
    by true e a same later = ap (λ (c : Bool). c || is_among n (filter p xs)) same ∙ ap (λ (c : Bool). a || c) later
    by false e true same later = absurd (let f : true ≡ false = sym takes ∙ ap p (same_bytes n x same) ∙ e in cc)
    by false e false same later = later

-- names are marked alike by a list and by those names of it that are among them
pub known_marks : (names list : List (List ℕ)) → marks_of names (filter (λ n. is_among n names) list) ≡ marks_of names list
known_marks names list =
    map_same (λ n. is_among n (filter (λ x. is_among x names) list)) (λ n. is_among n list) names
    (λ n among. among_kept (λ x. is_among x names) n list (any_true (bytes_eq n) names n among (bytes_same n n refl)))

missing : (n : List ℕ) (names : List (List ℕ)) → (Among n names → ⊥) → is_among n names ≡ false
missing n names never = by (is_among n names) refl
  where
    by : (b : Bool) → is_among n names ≡ b → b ≡ false
    by true there =
        let found = any_some (bytes_eq n) names there in
        absurd (never (subst (λ (x : List ℕ). Among x names) (sym (same_bytes n found.0 found.2)) found.1))
    by false there = refl

module _ (c : List ℕ → Bool) where
  abbrev left : List (List ℕ) → List (List ℕ)
  left names = filter (λ n. not (c n)) names

  numbered : (all done rest : List (List ℕ)) (k : ℕ) → all ≡ done ++ rest → k ≡ length done → AreNumbersOf all (left rest) (places_of_false k (map c rest))
  numbered all done [] k whole at = refl
  numbered all done (n ∷ rest) k whole at =
      by (c n) (numbered all (done ++ n ∷ []) rest (k + 1) (whole ∙ sym (append_assoc done (n ∷ []) rest)) (omega (arith, length-append done (n ∷ []))))
    where
      here : slice_get all k ≡ Some n
      here = ap (λ (xs : List (List ℕ)). slice_get xs k) whole ∙ ap (slice_get (done ++ n ∷ rest)) at ∙ get_past done rest n

      by : (b : Bool) → map (slice_get all) (places_of_false (k + 1) (map c rest)) ≡ map Some (left rest) → map (slice_get all) (places_of_false k (b ∷ map c rest)) ≡ map Some (cond (not b) (n ∷ left rest) (left rest))
      by true later = later
      by false later = ap (λ o. o ∷ map (slice_get all) (places_of_false (k + 1) (map c rest))) here ∙ ap (λ os. Some n ∷ os) later

  -- the places of what is left of some names, after so many nets
  abbrev Placed : List (List ℕ) → List (List ℕ) → ℕ → Type 0
  Placed done rest k = k ≡ length done → AreOnce rest → ((n : List ℕ) → Among n rest → is_among n done ≡ false) → counts_of_false k (map c rest) ≡ net_places (done ++ left rest) rest

  placed : (done rest : List (List ℕ)) (k : ℕ) → Placed done rest k
  placed done [] k at once new = refl
  placed done (n ∷ rest) k at once new = by (c n) (placed done rest k) (placed (done ++ n ∷ []) rest (k + 1))
    where
      apart : (m : List ℕ) → Among m rest → is_among m (done ++ n ∷ []) ≡ false
      apart m among =
          let other : is_among m (n ∷ []) ≡ false = missing m (n ∷ []) (λ is. once.0 (subst (λ (x : List ℕ). Among x rest) (among_one m n is) among)) in
          is_among_append m done (n ∷ []) ∙ ap (λ (b : Bool). b || is_among m (n ∷ [])) (new m (inr among)) ∙ other

      by : (b : Bool) → Placed done rest k → Placed (done ++ n ∷ []) rest (k + 1) → counts_of_false k (b ∷ map c rest) ≡ net_places (done ++ cond (not b) (n ∷ left rest) (left rest)) (n ∷ rest)
      by true same more =
          let gone : is_among n (left rest) ≡ false = missing n (left rest) (λ among. once.0 (filter_among (λ n. not (c n)) n rest among).0) in
          let none : is_among n (done ++ left rest) ≡ false = is_among_append n done (left rest) ∙ ap (λ (b : Bool). b || is_among n (left rest)) (new n (inl refl)) ∙ gone in
          ap (λ os. None ∷ os) (same at once.1 (λ m among. new m (inr among)))
          ∙ ap (λ o. o ∷ net_places (done ++ left rest) rest) (sym (no_place n (done ++ left rest) none))
      by false same more =
          let later = more (omega (arith, length-append done (n ∷ []))) once.1 apart in
          ap (λ os. Some k ∷ os) (later ∙ ap (λ (ns : List (List ℕ)). net_places ns rest) (append_assoc done (n ∷ []) (left rest)))
          ∙ ap (λ o. o ∷ net_places (done ++ n ∷ left rest) rest) (ap Some at ∙ sym (place_past n done (left rest) (new n (inl refl))))

-- where clock names are marked, the marks that are not set tell the numbers of the nets
pub nets_numbered : (names clocks : List (List ℕ)) → AreNumbersOf names (names_outside clocks names) (places_of_false 0 (marks_of names clocks))
nets_numbered names clocks = numbered (λ n. is_among n clocks) names [] names 0 refl refl

-- and the places of the names among them
pub nets_placed : (m : Model) (clocks : List (List ℕ)) → counts_of_false 0 (marks_of (names_in m) clocks) ≡ net_places (names_outside clocks (names_in m)) (names_in m)
nets_placed m clocks = placed (λ n. is_among n clocks) [] (names_in m) 0 refl (firsts_once (occurrences m)) (λ n among. refl)

-- a name that has no place among some names has none among those of them that a test takes
pub no_place_among : (p : List ℕ → Bool) (name : List ℕ) (names : List (List ℕ)) → position (bytes_eq name) names ≡ None → position (bytes_eq name) (filter p names) ≡ None
no_place_among p name names none = no_place name (filter p names) (missing name (filter p names) (λ among.
    some_from (bytes_eq name) 0 names
    (any_true (bytes_eq name) names name (filter_among p name names among).0 (bytes_same name name refl))
    (sym (position_is (bytes_eq name) names) ∙ none)))

-- the place that is kept at the number of a name
pub placed_at : (nets names : List (List ℕ)) (places : List (Option ℕ)) (number : ℕ) (name : List ℕ) → places ≡ net_places nets names → slice_get names number ≡ Some name → slice_get places number ≡ Some (position (bytes_eq name) nets)
placed_at nets names places number name are here =
    ap (λ (os : List (Option ℕ)). slice_get os number) are ∙ get_map (λ name. position (bytes_eq name) nets) names number name here
