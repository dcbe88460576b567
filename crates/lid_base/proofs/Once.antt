-- Lists in which no item stands twice.
use Rattle.std.proofs.Common.{◌≡◌, ◌⊎◌, ℕ, zero, suc, Bool, true, false, cond, List, [], ◌∷◌, ◌++◌, filter, Some, None, slice_get, inl, inr, refl, sym, ◌∙◌, ap, ◌+◌, ◌≤◌, length, length-append, map, flat_map, subst, arith}
use Rattle.std.specs.List.{AllByRecursion, IsDistinct}
use Rattle.std.specs.Str.{bytes_eq}
use Rattle.lid_base.specs.Lists.{Among, AreOnce}
use Rattle.lid_base.proofs.Lists.{among_append, filter_among, get_among, same_bytes, among_map, flat_among}
use Rattle.lid_base.specs.Each.{from_each}
use Rattle.lid_base.proofs.Each.{among_each}

-- such an item has one place
pub once_at : {A : Type 0} (xs : List A) → AreOnce xs → (i j : ℕ) (x : A) → slice_get xs i ≡ Some x → slice_get xs j ≡ Some x → i ≡ j
once_at [] once i j x here there = absurd (let e : None ≡ Some x = here in cc)
once_at (y ∷ ys) once zero zero x here there = refl
once_at (y ∷ ys) once zero (suc j) x here there = absurd (once.0 (get_among ys j y (there ∙ sym here)))
once_at (y ∷ ys) once (suc i) zero x here there = absurd (once.0 (get_among ys i y (here ∙ sym there)))
once_at (y ∷ ys) once (suc i) (suc j) x here there = ap suc (once_at ys once.1 i j x here there)

pub once_append : {A : Type 0} (xs ys : List A) → AreOnce xs → AreOnce ys → ((x : A) → Among x xs → Among x ys → ⊥) → AreOnce (xs ++ ys)
once_append [] ys once also apart = also
once_append {A} (x ∷ xs) ys once also apart = (new, once_append xs ys once.1 also (λ y i j. apart y (inr i) j))
  where
    new : Among x (xs ++ ys) → ⊥
    new there = by (among_append x xs ys there)
      where
        by : Among x xs ⊎ Among x ys → ⊥
        by (inl i) = once.0 i
        by (inr j) = apart x (inl refl) j

pub once_filter : {A : Type 0} (p : A → Bool) (xs : List A) → AreOnce xs → AreOnce (filter p xs)
once_filter p [] once = tt
once_filter p (x ∷ xs) once = by (p x) (once_filter p xs once.1)
  where
    by : (b : Bool) → AreOnce (filter p xs) → AreOnce (cond b (x ∷ filter p xs) (filter p xs))
    by true later = (λ among. once.0 (filter_among p x xs among).0, later)
    by false later = later

-- names of which none stands twice are distinct
pub once_distinct : (xs : List (List ℕ)) → AreOnce xs → IsDistinct bytes_eq xs
unfolding IsDistinct
once_distinct [] once = tt
once_distinct (x ∷ xs) once = (others xs once.0, once_distinct xs once.1)
  where
    other : (y : List ℕ) → (x ≡ y → ⊥) → (b : Bool) → bytes_eq x y ≡ b → bytes_eq x y ≡ false
    other y differ true e = absurd (differ (same_bytes x y e))
    other y differ false e = e

    others : (ys : List (List ℕ)) → (Among x ys → ⊥) → AllByRecursion (λ y. bytes_eq x y ≡ false) ys
    others [] none = tt
    others (y ∷ ys) none = (other y (λ same. none (inl same)) (bytes_eq x y) refl, others ys (λ among. none (inr among)))

pub once_each : {A : Type 0} (f : ℕ → A) (k n : ℕ) → ((i j : ℕ) → f i ≡ f j → i ≡ j) → AreOnce (from_each f k n)
once_each f k zero apart = tt
once_each f k (suc n) apart = (new, once_each f (k + 1) n apart)
  where
    new : Among (f k) (from_each f (k + 1) n) → ⊥
    new there =
        let at = among_each f (k + 1) n (f k) there in
        let low : k + 1 ≤ at.0 = at.1 in
        let same : k ≡ at.0 = apart k at.0 at.3 in
        omega arith

-- lists of items that tell from which they come
pub once_flat : {A B : Type 0} (f : A → List B) (key : A → ℕ) (told : B → ℕ) (xs : List A) → AreOnce (map key xs) → ((x : A) → Among x xs → AreOnce (f x)) → ((x : A) (y : B) → Among x xs → Among y (f x) → told y ≡ key x) → AreOnce (flat_map f xs)
once_flat f key told [] once each tells = tt
once_flat {A} {B} f key told (x ∷ xs) once each tells =
    once_append (f x) (flat_map f xs) (each x (inl refl)) (once_flat f key told xs once.1 (λ y i. each y (inr i)) (λ y z i. tells y z (inr i))) apart
  where
    apart : (y : B) → Among y (f x) → Among y (flat_map f xs) → ⊥
    apart y here there =
        let found = flat_among {A = A} {B = B} f y xs there in
        let same : key x ≡ key found.0 = sym (tells x y (inl refl) here) ∙ tells found.0 y (inr found.1) found.2 in
        once.0 (subst (λ (n : ℕ). Among n (map key xs)) (sym same) (among_map {A = A} {B = ℕ} key found.0 xs found.1))

-- numbers as keys of themselves
pub once_numbers : (xs : List ℕ) → AreOnce xs → AreOnce (map (λ (j : ℕ). j) xs)
once_numbers [] once = tt
once_numbers (x ∷ xs) once = (λ there. once.0 (back x xs there), once_numbers xs once.1)
  where
    back : (x : ℕ) (xs : List ℕ) → Among x (map (λ (j : ℕ). j) xs) → Among x xs
    back x [] none = none
    back x (y ∷ ys) (inl same) = inl same
    back x (y ∷ ys) (inr later) = inr (back x ys later)

pub once_range : (k n : ℕ) → AreOnce (map (λ (j : ℕ). j) (from_each (λ j. j) k n))
once_range k n = once_numbers (from_each (λ j. j) k n) (once_each (λ j. j) k n (λ i j same. same))

-- items that each tell of a number: where one of a list has the number, the list tells of it
pub told_there : {A B : Type 0} (key : A → ℕ) (told : ℕ → A → List B) → ((x : A) → 1 ≤ length (told (key x) x)) → (xs : List A) (k : ℕ) → Among k (map key xs) → 1 ≤ length (flat_map (told k) xs)
told_there key told own [] k none = absurd none
told_there key told own (x ∷ xs) k (inl is) = omega (arith, length-append (told k x) (flat_map (told k) xs), subst (λ (n : ℕ). 1 ≤ length (told n x)) (sym is) (own x))
told_there key told own (x ∷ xs) k (inr there) = omega (arith, length-append (told k x) (flat_map (told k) xs), told_there key told own xs k there)

-- and where the list tells at most once of each number, no two of it have the same
pub told_once : {A B : Type 0} (key : A → ℕ) (told : ℕ → A → List B) → ((x : A) → 1 ≤ length (told (key x) x)) → (xs : List A) → ((k : ℕ) → length (flat_map (told k) xs) ≤ 1) → AreOnce (map key xs)
told_once key told own [] few = tt
told_once key told own (x ∷ xs) few = (
  (λ there. omega (arith, few (key x), length-append (told (key x) x) (flat_map (told (key x)) xs), own x, told_there key told own xs (key x) there)),
  told_once key told own xs (λ k. omega (arith, few k, length-append (told k x) (flat_map (told k) xs))),
)
