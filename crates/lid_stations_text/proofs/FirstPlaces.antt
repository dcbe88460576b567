-- The place of the first that passes a test.
use Rattle.std.proofs.Common.{◌≡◌, ℕ, zero, suc, ◌+◌, ◌-◌, ◌<◌, ◌≤◌, Bool, true, false, List, [], ◌∷◌, ◌++◌, length, get_or, Some, None, refl, ap, ◌∙◌, arith}
use Rattle.std.specs.Prelude.{is_some, ◌||◌, if◌then◌else◌}
use Rattle.std.specs.List.{list_any}
use Rattle.std.proofs.lemmas.Bool.{cond-true, cond-false}
use Rattle.lid_base.specs.declared.line.Line.{Line}
use Rattle.lid_stations_text.specs.Faults.{place_where}
use Rattle.lid_stations_text.specs.Readings.{first_line}

-- one of n places from i on
pub record IsPlaceIn (i n k : ℕ) : Type 0 where
  pub after : i ≤ k
  pub within : k < i + n

pub place_in : {A : Type 0} (test : A → Bool) (i : ℕ) (xs : List A) (k : ℕ) → place_where test i xs ≡ Some k → IsPlaceIn i (length xs) k
place_in test i [] k e = absurd (cc)
place_in test i (x ∷ xs) k e =
    (elim (test x) as (λ b. (if b then Some i else place_where test (i + 1) xs) ≡ Some k → IsPlaceIn i (suc (length xs)) k) [
      | true ↦ λ found. let is : i ≡ k = cc in record { after = omega arith; within = omega arith }
      | false ↦ λ found. let p = place_in test (i + 1) xs k found in record { after = (let h = p.after in omega arith); within = (let h = p.within in omega arith) }
    ]) e

-- found, where the first ones fail and the next one passes
pub first_at : {A : Type 0} (test : A → Bool) (i : ℕ) (xs : List A) (n : ℕ) (d : A) → n < length xs → ((k : ℕ) → k < n → test (get_or xs k d) ≡ false) → test (get_or xs n d) ≡ true → place_where test i xs ≡ Some (i + n)
first_at test i [] n d h before at = absurd (omega arith)
first_at test i (x ∷ xs) zero d h before at = cond-true _ _ _ at ∙ (let e : i ≡ i + 0 = omega arith in ap Some e)
first_at test i (x ∷ xs) (suc n) d h before at =
    cond-false _ _ _ (before 0 (omega arith))
    ∙ first_at test (i + 1) xs n d (omega arith) (λ k l. before (suc k) (omega arith)) at
    ∙ (let e : (i + 1) + n ≡ i + suc n = omega arith in ap Some e)

-- not found, where all fail
pub first_none : {A : Type 0} (test : A → Bool) (i : ℕ) (xs : List A) → ((k : ℕ) (d : A) → k < length xs → test (get_or xs k d) ≡ false) → place_where test i xs ≡ None
first_none test i [] h = refl
first_none test i (x ∷ xs) h = cond-false _ _ _ (h 0 x (omega arith)) ∙ first_none test (i + 1) xs (λ k d l. h (suc k) d (omega arith))

pub first_never : {A : Type 0} (test : A → Bool) (xs : List A) → ((x : A) → test x ≡ false) → place_where test 0 xs ≡ None
first_never test xs h = first_none test 0 xs (λ k d l. h _)

-- one is found where any passes
pub any_from_place : {A : Type 0} (test : A → Bool) (i : ℕ) (xs : List A) → is_some (place_where test i xs) ≡ list_any test xs
any_from_place test i [] = refl
any_from_place test i (x ∷ xs) =
    elim (test x) as (λ b. is_some (if b then Some i else place_where test (i + 1) xs) ≡ (b || list_any test xs)) [
      | true ↦ refl
      | false ↦ any_from_place test (i + 1) xs
    ]

-- with one more at the end
pub more_failed : {A : Type 0} (test : A → Bool) (i : ℕ) (xs : List A) (y : A) → test y ≡ false → place_where test i (xs ++ y ∷ []) ≡ place_where test i xs
more_failed test i [] y e = cond-false _ _ _ e
more_failed test i (x ∷ xs) y e =
    elim (test x) as (λ b. (if b then Some i else place_where test (i + 1) (xs ++ y ∷ [])) ≡ (if b then Some i else place_where test (i + 1) xs)) [
      | true ↦ refl
      | false ↦ more_failed test (i + 1) xs y e
    ]

pub more_passed : {A : Type 0} (test : A → Bool) (i : ℕ) (xs : List A) (y : A) → place_where test i xs ≡ None → test y ≡ true → place_where test i (xs ++ y ∷ []) ≡ Some (i + length xs)
more_passed test i [] y none e = cond-true _ _ _ e ∙ (let e : i ≡ i + 0 = omega arith in ap Some e)
more_passed test i (x ∷ xs) y none e =
    (elim (test x) as (λ b. (if b then Some i else place_where test (i + 1) xs) ≡ None → (if b then Some i else place_where test (i + 1) (xs ++ y ∷ [])) ≡ Some (i + suc (length xs))) [
      | true ↦ λ found. absurd (cc)
      | false ↦ λ left. more_passed test (i + 1) xs y left e ∙ (let e : (i + 1) + length xs ≡ i + suc (length xs) = omega arith in ap Some e)
    ]) none

-- the line at the place
pub no_line : (test : Line → Bool) (i : ℕ) (xs : List Line) → place_where test i xs ≡ None → first_line test xs ≡ None
no_line test i [] e = refl
no_line test i (x ∷ xs) e =
    (elim (test x) as (λ b. (if b then Some i else place_where test (i + 1) xs) ≡ None → (if b then Some x else first_line test xs) ≡ None) [
      | true ↦ λ found. absurd (cc)
      | false ↦ λ left. no_line test (i + 1) xs left
    ]) e

pub line_at : (test : Line → Bool) (i : ℕ) (xs : List Line) (k j : ℕ) (d : Line) → place_where test i xs ≡ Some k → i + j ≡ k → first_line test xs ≡ Some (get_or xs j d)
line_at test i [] k j d e s = absurd (cc)
line_at test i (x ∷ xs) k j d e s =
    (elim (test x) as (λ b. (if b then Some i else place_where test (i + 1) xs) ≡ Some k → (if b then Some x else first_line test xs) ≡ Some (get_or (x ∷ xs) j d)) [
      | true ↦ λ found. let is : i ≡ k = cc in (let z : 0 ≡ j = omega arith in ap (λ (m : ℕ). Some (get_or (x ∷ xs) m d)) z)
      | false ↦ λ left.
          let p = place_in test (i + 1) xs k left in
          let a = p.after in
          let z : suc (j - 1) ≡ j = omega arith in
          line_at test (i + 1) xs k (j - 1) d left (omega arith) ∙ ap (λ (m : ℕ). Some (get_or (x ∷ xs) m d)) z
    ]) e
