-- Names that stand once, and conditions that nothing meets.
use Rattle.std.proofs.Common.{◌≡◌, ℕ, ◌+◌, ◌≤◌, Bool, true, false, ◌||◌, cond, List, [], ◌∷◌, ◌++◌, filter, find, Some, None, inl, inr, refl, sym, ◌∙◌, ap, subst, arith}
use Rattle.std.specs.List.{AllByRecursion, IsDistinct, count_by, flat_map, list_any}
use Rattle.std.specs.Str.{bytes_eq}
use Rattle.std.proofs.lemmas.Bool.{le-ltb}
use Rattle.lid_base.specs.Lists.{Among}
use Rattle.lid_base.proofs.Lists.{same_bytes}
use Rattle.lid_design.specs.Columns.{is_among}
use Rattle.lid_design.specs.Models.{is_twice}
use Rattle.lid_check_names.proofs.Lists.{count_append}
use Rattle.lid_check_drivers.proofs.Names.{to_among, count-cons, count_none}

none_equal : (x : List ℕ) (xs : List (List ℕ)) → AllByRecursion (λ y. bytes_eq x y ≡ false) xs → is_among x xs ≡ false
none_equal x [] all = refl
none_equal x (y ∷ ys) all = ap (λ (b : Bool). b || is_among x ys) all.0 ∙ none_equal x ys all.1

-- a name stands at most once among distinct names
pub once_counted : (xs : List (List ℕ)) → IsDistinct bytes_eq xs → (name : List ℕ) → count_by (bytes_eq name) xs ≤ 1
unfolding IsDistinct
once_counted [] distinct name = omega arith
once_counted (x ∷ xs) distinct name = subst (λ (n : ℕ). n ≤ 1) (sym (count-cons name x xs)) (by (bytes_eq name x) refl (once_counted xs distinct.1 name))
  where
    by : (b : Bool) → bytes_eq name x ≡ b → count_by (bytes_eq name) xs ≤ 1 → cond b 1 0 + count_by (bytes_eq name) xs ≤ 1
    by true e one =
        let none : count_by (bytes_eq name) xs ≡ 0 = count_none name xs (ap (λ (x : List ℕ). is_among x xs) (same_bytes name x e) ∙ none_equal x xs distinct.0) in
        omega arith
    by false e one = omega arith

pub not_twice : (xs : List (List ℕ)) (name : List ℕ) → count_by (bytes_eq name) xs ≤ 1 → is_twice xs name ≡ false
not_twice xs name one = le-ltb 1 (count_by (bytes_eq name) xs) one

pub left_once : (xs ys : List (List ℕ)) (name : List ℕ) → count_by (bytes_eq name) (xs ++ ys) ≤ 1 → count_by (bytes_eq name) xs ≤ 1
left_once xs ys name one = let both = count_append name xs ys in omega arith

-- a test that no item passes finds none
pub finds_none : {A : Type 0} (p : A → Bool) (xs : List A) → ((x : A) → Among x xs → p x ≡ false) → find p xs ≡ None
finds_none p [] none = refl
finds_none p (x ∷ xs) none = by (p x) (none x (inl refl)) (finds_none p xs (λ y among. none y (inr among)))
  where
    by : (b : Bool) → b ≡ false → find p xs ≡ None → cond b (Some x) (find p xs) ≡ None
    by true e later = absurd (let f : true ≡ false = e in cc)
    by false e later = later

pub any_none : {A : Type 0} (p : A → Bool) (xs : List A) → ((x : A) → Among x xs → p x ≡ false) → list_any p xs ≡ false
any_none p [] none = refl
any_none p (x ∷ xs) none = ap (λ (b : Bool). b || list_any p xs) (none x (inl refl)) ∙ any_none p xs (λ y among. none y (inr among))

pub filter_none : {A : Type 0} (p : A → Bool) (xs : List A) → ((x : A) → Among x xs → p x ≡ false) → filter p xs ≡ []
filter_none p [] none = refl
filter_none p (x ∷ xs) none = by (p x) (none x (inl refl)) (filter_none p xs (λ y among. none y (inr among)))
  where
    by : (b : Bool) → b ≡ false → filter p xs ≡ [] → cond b (x ∷ filter p xs) (filter p xs) ≡ []
    by true e later = absurd (let f : true ≡ false = e in cc)
    by false e later = later

pub flat_none : {A B : Type 0} (f : A → List B) (xs : List A) → ((x : A) → Among x xs → f x ≡ []) → flat_map f xs ≡ []
flat_none f [] none = refl
flat_none {A} {B} f (x ∷ xs) none =
    let head = none x (inl refl) in
    let tail = flat_none f xs (λ y among. none y (inr among)) in
    ap (λ (ys : List B). ys ++ flat_map f xs) head ∙ tail

-- a name is not in a list that holds it nowhere
pub among_none : (name : List ℕ) (xs : List (List ℕ)) → ¬ Among name xs → is_among name xs ≡ false
among_none name xs none = by (is_among name xs) refl
  where
    by : (b : Bool) → is_among name xs ≡ b → is_among name xs ≡ false
    by true e = absurd (none (to_among name xs e))
    by false e = e

-- what is kept of items of which each is so
pub kept_all : {A : Type 0} (P : A → Type 0) (p : A → Bool) (xs : List A) → AllByRecursion P xs → AllByRecursion P (filter p xs)
kept_all P p [] all = tt
kept_all P p (x ∷ xs) all = by (p x) (kept_all P p xs all.1)
  where
    by : (b : Bool) → AllByRecursion P (filter p xs) → AllByRecursion P (cond b (x ∷ filter p xs) (filter p xs))
    by true later = (all.0, later)
    by false later = later
