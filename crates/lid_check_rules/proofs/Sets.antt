-- First items of lists, and what holds of all items.
use Rattle.std.proofs.Common.{◌≡◌, ℕ, Bool, true, false, not, ◌&&◌, ◌||◌, cond, List, [], ◌∷◌, ◌++◌, ◌+◌, ◌<◌, zero, suc, length, map, filter, find, Option, Some, None, option_map, option_and_then, position, slice_get, drop, refl, sym, ap, ◌∙◌, arith}
use Rattle.std.specs.List.{list_all}
use Rattle.std.specs.Option.{option_or}
use Rattle.std.specs.Str.{bytes_eq}
use Rattle.std.proofs.lemmas.List.Folds.{find-append}
use Rattle.std.proofs.lemmas.List.{drop_more}
use Rattle.std.proofs.lemmas.Option.{none-some, same_Some, get_or_from_slice_get}
use Rattle.lid_base.proofs.Lists.{same_bytes}
use Rattle.lid_base.proofs.Places.{item_at}
use Rattle.lid_design.specs.Columns.{is_among}
use Rattle.lid_design.specs.Models.{firsts}
use Rattle.lid_check_names.proofs.Lists.{differs}
use Rattle.lid_check_names.proofs.Numbers.{position_below}
use Rattle.lid_check_hierarchy.proofs.Fixpoints.{find_position}

pub find_map : {A B C : Type 0} (f : B → C) (p : B → Bool) (g : A → B) (xs : List A) → option_map (λ a. f (g a)) (find (λ a. p (g a)) xs) ≡ option_map f (find p (map g xs))
find_map f p g [] = refl
find_map {A} {B} {C} f p g (x ∷ xs) = by (p (g x)) (find_map f p g xs)
  where
    by : (b : Bool) → option_map (λ a. f (g a)) (find (λ a. p (g a)) xs) ≡ option_map f (find p (map g xs)) → option_map (λ a. f (g a)) (cond b (Some x) (find (λ a. p (g a)) xs)) ≡ option_map f (cond b (Some (g x)) (find p (map g xs)))
    by true later = refl
    by false later = later

pub find_none : {A : Type 0} (p : A → Bool) (xs : List A) → ((x : A) → p x ≡ false) → find p xs ≡ None
find_none p [] never = refl
find_none {A} p (x ∷ xs) never = ap (λ (b : Bool). cond b (Some x) (find p xs)) (never x) ∙ find_none p xs never

-- what holds of all names of a list holds of each that stands there
pub all_among : (p : List ℕ → Bool) (names : List (List ℕ)) → list_all p names ≡ true → (n : List ℕ) → is_among n names ≡ true → p n ≡ true
all_among p [] all n among = absurd (let f : false ≡ true = among in cc)
all_among p (x ∷ xs) all n among = by (p x) refl (bytes_eq n x) refl all among (λ rest here. all_among p xs rest n here)
  where
    by : (a : Bool) → p x ≡ a → (b : Bool) → bytes_eq n x ≡ b → (a && list_all p xs) ≡ true → (b || is_among n xs) ≡ true → (list_all p xs ≡ true → is_among n xs ≡ true → p n ≡ true) → p n ≡ true
    by true e true same rest here later = ap p (same_bytes n x same) ∙ e
    by true e false other rest here later = later rest here
    by false e b same rest here later = absurd (let f : false ≡ true = rest in cc)

-- a list that has a name of which something holds has a first one
some_found : (p : List ℕ → Bool) (xs : List (List ℕ)) (n : List ℕ) → is_among n xs ≡ true → p n ≡ true → find p xs ≡ None → ⊥
some_found p [] n among holds none = let f : false ≡ true = among in cc
some_found p (x ∷ xs) n among holds none = by (p x) refl (bytes_eq n x) refl among none (λ here rest. some_found p xs n here holds rest)
  where
    by : (a : Bool) → p x ≡ a → (b : Bool) → bytes_eq n x ≡ b → (b || is_among n xs) ≡ true → cond a (Some x) (find p xs) ≡ None → (is_among n xs ≡ true → find p xs ≡ None → ⊥) → ⊥
    by true e b same here none later = none-some x (sym none)
    by false e true same here none later = let same : p n ≡ p x = ap p (same_bytes n x same) in let h : p n ≡ true = holds in cc
    by false e false other here none later = later here none

-- the first of some names of which something holds is among the first ones, where all of which it holds stand there
pub find_within : (p : List ℕ → Bool) (xs ys : List (List ℕ)) → ((n : List ℕ) → p n ≡ true → is_among n xs ≡ true) → find p (xs ++ ys) ≡ find p xs
find_within p xs ys within = find-append p xs ys ∙ by (find p xs) refl
  where
    none : find p xs ≡ None → (zs : List (List ℕ)) → find p zs ≡ None
    none e zs = find_none p zs (λ n. never n (p n) refl)
      where
        never : (n : List ℕ) (b : Bool) → p n ≡ b → p n ≡ false
        never n false e = e
        never n true here = absurd (some_found p xs n (within n here) here e)

    by : (o : Option (List ℕ)) → find p xs ≡ o → option_or (find p xs) (find p ys) ≡ find p xs
    by (Some n) e = ap (λ (o : Option (List ℕ)). option_or o (find p ys)) e ∙ sym e
    by None e = ap (λ (o : Option (List ℕ)). option_or o (find p ys)) e ∙ none e ys ∙ sym e

-- what holds of all items from a place on, by the item there
pub all_from : {A : Type 0} (p : A → Bool) (xs : List A) (i : ℕ) (b : Bool) → i < length xs → ((x : A) → slice_get xs i ≡ Some x → b ≡ p x) → list_all p (drop i xs) ≡ (b && list_all p (drop (i + 1) xs))
all_from p [] i b within is = absurd (omega arith)
all_from p (x ∷ xs) zero b within is = ap (λ (c : Bool). c && list_all p xs) (sym (is x refl))
all_from p (x ∷ xs) (suc i) b within is =
    let next : suc (i + 1) ≡ suc i + 1 = omega arith in
    all_from p xs i b (omega arith) is ∙ ap (λ (j : ℕ). b && list_all p (drop j (x ∷ xs))) next

-- what is found from a place on, by the item there
pub find_from : {A : Type 0} (p : A → Bool) (xs : List A) (i : ℕ) (x : A) → i < length xs → slice_get xs i ≡ Some x → find p (drop i xs) ≡ cond (p x) (Some x) (find p (drop (i + 1) xs))
find_from p xs i x below here = ap (find p) (drop_more xs i x below ∙ ap (λ y. y ∷ drop (i + 1) xs) (get_or_from_slice_get xs i x x here))

-- names without x, of which something does not hold, have the same first one
find_without : (p : List ℕ → Bool) (x : List ℕ) (ys : List (List ℕ)) → p x ≡ false → find p (filter (differs x) ys) ≡ find p ys
find_without p x [] other = refl
find_without p x (y ∷ ys) other = by (bytes_eq y x) refl (find_without p x ys other)
  where
    by : (b : Bool) → bytes_eq y x ≡ b → find p (filter (differs x) ys) ≡ find p ys → find p (cond (not b) (y ∷ filter (differs x) ys) (filter (differs x) ys)) ≡ cond (p y) (Some y) (find p ys)
    by true same later =
        let never : p y ≡ false = ap p (same_bytes y x same) ∙ other in
        later ∙ sym (ap (λ (a : Bool). cond a (Some y) (find p ys)) never)
    by false apart later = ap (λ (o : Option (List ℕ)). cond (p y) (Some y) o) later

-- the first name of which something holds is found where each name is asked once
pub find_firsts : (p : List ℕ → Bool) (xs : List (List ℕ)) → find p xs ≡ find p (firsts xs)
find_firsts p [] = refl
find_firsts p (x ∷ xs) = by (p x) refl (find_firsts p xs)
  where
    by : (a : Bool) → p x ≡ a → find p xs ≡ find p (firsts xs) → cond (p x) (Some x) (find p xs) ≡ cond (p x) (Some x) (find p (filter (differs x) (firsts xs)))
    by true e later = ap (λ (b : Bool). cond b (Some x) (find p xs)) e ∙ sym (ap (λ (b : Bool). cond b (Some x) (find p (filter (differs x) (firsts xs)))) e)
    by false e later = ap (λ (o : Option (List ℕ)). cond (p x) (Some x) o) (later ∙ sym (find_without p x (firsts xs) e))

pub not_true : (b : Bool) → not b ≡ true → b ≡ false
not_true true h = sym h
not_true false h = refl

-- what is found passes
find_passes : {A : Type 0} (p : A → Bool) (xs : List A) (x : A) → find p xs ≡ Some x → p x ≡ true
find_passes p [] x found = absurd (let f : None ≡ Some x = found in cc)
find_passes {A} p (y ∷ ys) x found = by (p y) refl found (find_passes p ys x)
  where
    by : (b : Bool) → p y ≡ b → cond b (Some y) (find p ys) ≡ Some x → (find p ys ≡ Some x → p x ≡ true) → p x ≡ true
    by true e here later = ap p (sym (same_Some y x here)) ∙ e
    by false e here later = later here

-- a name stands at the place where it is found
pub found_there : (name : List ℕ) (names : List (List ℕ)) (i : ℕ) → position (bytes_eq name) names ≡ Some i → slice_get names i ≡ Some name
found_there name names i at =
    let item = item_at names i (position_below (bytes_eq name) names i at) in
    let found = find_position (bytes_eq name) names ∙ ap (option_and_then (slice_get names)) at ∙ item.1 in
    item.1 ∙ ap Some (sym (same_bytes name item.0 (find_passes (bytes_eq name) names item.0 found)))
