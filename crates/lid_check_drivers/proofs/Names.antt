-- Names in lists of names.
use Rattle.std.proofs.Common.{◌≡◌, ◌⊎◌, ℕ, ◌+◌, ◌≤◌, Bool, true, false, ◌||◌, not, cond, List, [], ◌∷◌, find, Some, None, slice_get, inl, inr, refl, sym, ◌∙◌, ap, subst, arith, one-add}
use Rattle.std.specs.List.{count_by, position_or_len, prefix_len}
use Rattle.std.specs.Str.{bytes_eq}
use Rattle.std.proofs.lemmas.List.Sums.{sum_by-cons}
use Rattle.lid_base.specs.Lists.{Among}
use Rattle.lid_base.proofs.Lists.{same_bytes, bytes_same}
use Rattle.lid_design.specs.Columns.{is_among}

pub to_among : (x : List ℕ) (xs : List (List ℕ)) → is_among x xs ≡ true → Among x xs
to_among x [] h = absurd (let e : false ≡ true = h in cc)
to_among x (y ∷ ys) h = by (bytes_eq x y) refl h (to_among x ys)
  where
    by : (b : Bool) → bytes_eq x y ≡ b → (b || is_among x ys) ≡ true → (is_among x ys ≡ true → Among x ys) → Among x (y ∷ ys)
    by true e h later = inl (same_bytes x y e)
    by false e h later = inr (later h)

pub from_among : (x : List ℕ) (xs : List (List ℕ)) → Among x xs → is_among x xs ≡ true
from_among x [] among = absurd among
from_among x (y ∷ ys) (inl same) = ap (λ (b : Bool). b || is_among x ys) (bytes_same x y same)
from_among x (y ∷ ys) (inr later) = by (bytes_eq x y) (from_among x ys later)
  where
    by : (b : Bool) → is_among x ys ≡ true → (b || is_among x ys) ≡ true
    by true h = refl
    by false h = h

-- where no item passes, none is found
pub none_found : {A : Type 0} (p : A → Bool) (xs : List A) → find p xs ≡ None → (x : A) → Among x xs → p x ≡ false
none_found p [] none x among = absurd among
none_found {A} p (y ∷ ys) none x among = by (p y) refl none among (λ rest later. none_found p ys rest x later)
  where
    by : (b : Bool) → p y ≡ b → cond b (Some y) (find p ys) ≡ None → (x ≡ y) ⊎ Among x ys → (find p ys ≡ None → Among x ys → p x ≡ false) → p x ≡ false
    by true e none among next = absurd (let f : Some y ≡ None = none in cc)
    by false e none (inl same) next = ap p same ∙ e
    by false e none (inr later) next = next none later

-- counts of names
pub count-cons : (x y : List ℕ) (ys : List (List ℕ)) → count_by (bytes_eq x) (y ∷ ys) ≡ cond (bytes_eq x y) 1 0 + count_by (bytes_eq x) ys
count-cons x y ys = sum_by-cons (λ z. cond (bytes_eq x z) 1 0) y ys

pub count_none : (x : List ℕ) (xs : List (List ℕ)) → is_among x xs ≡ false → count_by (bytes_eq x) xs ≡ 0
count_none x [] none = refl
count_none x (y ∷ ys) none = count-cons x y ys ∙ by (bytes_eq x y) none (count_none x ys)
  where
    by : (b : Bool) → (b || is_among x ys) ≡ false → (is_among x ys ≡ false → count_by (bytes_eq x) ys ≡ 0) → cond b 1 0 + count_by (bytes_eq x) ys ≡ 0
    by true h next = absurd (let e : true ≡ false = h in cc)
    by false h next = let e = next h in omega arith

pub count_some : (x : List ℕ) (xs : List (List ℕ)) → is_among x xs ≡ true → 1 ≤ count_by (bytes_eq x) xs
count_some x [] some = absurd (let e : false ≡ true = some in cc)
count_some x (y ∷ ys) some = subst (λ (n : ℕ). 1 ≤ n) (sym (count-cons x y ys)) (by (bytes_eq x y) some (count_some x ys))
  where
    by : (b : Bool) → (b || is_among x ys) ≡ true → (is_among x ys ≡ true → 1 ≤ count_by (bytes_eq x) ys) → 1 ≤ cond b 1 0 + count_by (bytes_eq x) ys
    by true h next = omega arith
    by false h next = let e = next h in omega arith

-- a name stands at its place
pub position_get : (net : List ℕ) (names : List (List ℕ)) → Among net names → slice_get names (position_or_len (bytes_eq net) names) ≡ Some net
position_get net [] none = absurd none
position_get net (x ∷ names) among = by (bytes_eq net x) refl among (position_get net names)
  where
    by : (b : Bool) → bytes_eq net x ≡ b → (net ≡ x) ⊎ Among net names → (Among net names → slice_get names (position_or_len (bytes_eq net) names) ≡ Some net) → slice_get (x ∷ names) (cond (not b) (1 + prefix_len (λ y. not (bytes_eq net y)) names) 0) ≡ Some net
    by true e among later = ap Some (sym (same_bytes net x e))
    by false e (inl eq) later = absurd (let f : true ≡ false = sym (bytes_same net x eq) ∙ e in cc)
    by false e (inr rest) later = ap (slice_get (x ∷ names)) (one-add (prefix_len (λ y. not (bytes_eq net y)) names)) ∙ later rest
