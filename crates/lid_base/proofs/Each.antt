-- Lists of what a function gives at each of so many numbers.
use Rattle.std.proofs.Common.{◌≡◌, ◌⊎◌, ℕ, zero, suc, ◌+◌, ◌<◌, ◌≤◌, Bool, cond, List, [], ◌∷◌, ◌++◌, length, take, get_or, map, filter, flat_map, Some, slice_get, append_assoc, zero-add, refl, sym, ◌∙◌, ap, inl, inr, arith}
use Rattle.std.specs.List.{AllByRecursion}
use Rattle.std.proofs.lemmas.Bool.{cases_eq}
use Rattle.std.proofs.lemmas.List.Elements.{filter-append}
use Rattle.std.proofs.lemmas.Option.{slice_get_within, same_Some, get_or_from_slice_get}
use Rattle.lid_base.specs.Lists.{Among}
use Rattle.lid_base.specs.Each.{from_each}

pub each_length : {A : Type 0} (f : ℕ → A) (k n : ℕ) → length (from_each f k n) ≡ n
each_length f k zero = refl
each_length f k (suc n) = ap suc (each_length f (k + 1) n)

-- items by their places
pub each_get : {A : Type 0} (f : ℕ → A) (k n i : ℕ) → i < n → slice_get (from_each f k n) i ≡ Some (f (k + i))
each_get f k zero i h = absurd (omega arith)
each_get f k (suc n) zero h = let place : k ≡ k + 0 = omega arith in ap (λ (m : ℕ). Some (f m)) place
each_get f k (suc n) (suc i) h = let place : (k + 1) + i ≡ k + suc i = omega arith in each_get f (k + 1) n i (omega arith) ∙ ap (λ (m : ℕ). Some (f m)) place

pub each_at : {A : Type 0} (f : ℕ → A) (k n i : ℕ) (d : A) → i < n → get_or (from_each f k n) i d ≡ f (k + i)
each_at f k n i d h = get_or_from_slice_get (from_each f k n) i (f (k + i)) d (each_get f k n i h)

pub get_each : {A : Type 0} (f : ℕ → A) (k n i : ℕ) (x : A) → slice_get (from_each f k n) i ≡ Some x → x ≡ f (k + i)
get_each f k n i x here =
    let within : i < length (from_each f k n) = slice_get_within (from_each f k n) i x here in
    let long = each_length f k n in
    same_Some x (f (k + i)) (sym here ∙ each_get f k n i (omega arith))

-- items by what they are
pub each_among : {A : Type 0} (f : ℕ → A) (k n j : ℕ) → k ≤ j → j < k + n → Among (f j) (from_each f k n)
each_among f k zero j least most = absurd (omega arith)
each_among {A} f k (suc n) j least most = by (cases_eq j k) (λ above. each_among f (k + 1) n j above (omega arith))
  where
    by : (j ≡ k) ⊎ (j ≡ k → ⊥) → (k + 1 ≤ j → Among (f j) (from_each f (k + 1) n)) → Among (f j) (f k ∷ from_each f (k + 1) n)
    by (inl same) later = inl (ap f same)
    by (inr other) later = inr (later (omega (arith, other)))

pub among_each : {A : Type 0} (f : ℕ → A) (k n : ℕ) (x : A) → Among x (from_each f k n) → (j : ℕ) × (k ≤ j) × (j < k + n) × (x ≡ f j)
among_each f k zero x none = absurd none
among_each f k (suc n) x (inl same) = (k, omega arith, omega arith, same)
among_each f k (suc n) x (inr later) =
    let found = among_each f (k + 1) n x later in
    let low : k + 1 ≤ found.0 = found.1 in
    let high : found.0 < (k + 1) + n = found.2 in
    (found.0, omega arith, omega arith, found.3)

pub all_each : {A : Type 0} (P : A → Type 0) (f : ℕ → A) (k n : ℕ) → ((j : ℕ) → P (f j)) → AllByRecursion P (from_each f k n)
all_each P f k zero each = tt
all_each P f k (suc n) each = (each k, all_each P f (k + 1) n each)

pub all_each_below : {A : Type 0} (P : A → Type 0) (f : ℕ → A) (k n : ℕ) → ((j : ℕ) → j < k + n → P (f j)) → AllByRecursion P (from_each f k n)
all_each_below P f k zero each = tt
all_each_below P f k (suc n) each = (each k (omega arith), all_each_below P f (k + 1) n (λ j less. each j (omega arith)))

pub each_same : {A : Type 0} (f g : ℕ → A) (k n : ℕ) → ((j : ℕ) → j < k + n → f j ≡ g j) → from_each f k n ≡ from_each g k n
each_same f g k zero same = refl
each_same f g k (suc n) same =
    let head : f k ≡ g k = same k (omega arith) in
    let tail : from_each f (k + 1) n ≡ from_each g (k + 1) n = each_same f g (k + 1) n (λ j h. same j (omega arith)) in
    cc

pub each_map : {A B : Type 0} (f : A → B) (g : ℕ → A) (k n : ℕ) → from_each (λ j. f (g j)) k n ≡ map f (from_each g k n)
each_map f g k zero = refl
each_map {A} {B} f g k (suc n) = ap (λ (xs : List B). f (g k) ∷ xs) (each_map f g (k + 1) n)

-- more numbers
pub each_append : {A : Type 0} (f : ℕ → A) (k m n : ℕ) → from_each f k (m + n) ≡ from_each f k m ++ from_each f (k + m) n
each_append {A} f k zero n = ap (from_each f k) (zero-add n) ∙ (let e : k ≡ k + 0 = omega arith in ap (λ (j : ℕ). from_each f j n) e)
each_append {A} f k (suc m) n =
    (let e : suc m + n ≡ suc (m + n) = omega arith in ap (from_each f k) e)
    ∙ ap (λ (xs : List A). f k ∷ xs) (each_append f (k + 1) m n ∙ (let e : (k + 1) + m ≡ k + suc m = omega arith in ap (λ (j : ℕ). from_each f (k + 1) m ++ from_each f j n) e))

pub each_more : {A : Type 0} (f : ℕ → A) (k n : ℕ) → from_each f k (n + 1) ≡ from_each f k n ++ f (k + n) ∷ []
each_more f k n = each_append f k n 1

pub each_one_more : {A : Type 0} (f : ℕ → A) (n : ℕ) → from_each f 0 (n + 1) ≡ from_each f 0 n ++ f n ∷ []
each_one_more {A} f n = each_more f 0 n ∙ ap (λ (j : ℕ). from_each f 0 n ++ f j ∷ []) (zero-add n)

-- a list that was appended to, with one more
pub each_pushed : {A : Type 0} (f : ℕ → A) (old now new : List A) (n : ℕ) → now ≡ old ++ from_each f 0 n → new ≡ now ++ f n ∷ [] → new ≡ old ++ from_each f 0 (n + 1)
each_pushed {A} f old now new n was is =
    is ∙ ap (λ (xs : List A). xs ++ f n ∷ []) was ∙ append_assoc old (from_each f 0 n) (f n ∷ []) ∙ ap (λ (xs : List A). old ++ xs) (sym (each_one_more f n))

pub take_each : {A : Type 0} (f : ℕ → A) (k n m : ℕ) → m ≤ n → take m (from_each f k n) ≡ from_each f k m
take_each f k n zero h = refl
take_each f k zero (suc m) h = absurd (omega arith)
take_each {A} f k (suc n) (suc m) h = ap (λ (xs : List A). f k ∷ xs) (take_each f (k + 1) n m (omega arith))

-- those that pass a test, of one number more
pub each_filtered : (p : ℕ → Bool) (n : ℕ) → filter p (from_each (λ j. j) 0 (n + 1)) ≡ filter p (from_each (λ j. j) 0 n) ++ cond (p n) (n ∷ []) []
each_filtered p n = ap (filter p) (each_one_more (λ j. j) n) ∙ filter-append p (from_each (λ j. j) 0 n) (n ∷ [])

-- the lists that a function gives at each
pub each_flat : {A B : Type 0} (g : A → List B) (f : ℕ → A) (k n : ℕ) → flat_map g (from_each f k n) ≡ flat_map (λ j. g (f j)) (from_each (λ j. j) k n)
each_flat g f k zero = refl
each_flat {A} {B} g f k (suc n) = ap (λ (xs : List B). g (f k) ++ xs) (each_flat g f (k + 1) n)
