-- The numbers that pass a test, and where they stand.
use Rattle.std.proofs.Common.{◌≡◌, ℕ, zero, suc, ◌+◌, ◌<◌, ◌≤◌, ◌≢◌, ◌==◌, ◌⊎◌, inl, inr, Bool, true, false, cond, nat_le, List, [], ◌∷◌, ◌++◌, length, get_or, map, position, Option, Some, is_some, refl, sym, ◌∙◌, ap, arith}
use Rattle.std.specs.Option.{option_map_or}
use Rattle.std.proofs.lemmas.Bool.{cases_eq, cases_lt, le-leb, and_parts}
use Rattle.std.proofs.lemmas.List.{get_or_append_left, length-append, get_or-map}
use Rattle.std.proofs.Math.Seq.{get_or-append_seam}
use Rattle.lid_cert.specs.Certificates.{rises, ascends}
use Rattle.lid_cert.proofs.Ascending.{place_found, place_missing}
use Rattle.lid_rate.specs.Rates.{numbers_where}

abbrev More : (ℕ → Bool) → ℕ → Bool → List ℕ
More p n b = cond b (numbers_where p n ++ n ∷ []) (numbers_where p n)

-- what stands there passes
pub those_only : (p : ℕ → Bool) (n i : ℕ) → i < length (numbers_where p n) → (get_or (numbers_where p n) i 0 < n) × (p (get_or (numbers_where p n) i 0) ≡ true)
those_only p zero i h = absurd (omega arith)
those_only p (suc n) i h = by_test (those_only p n i) (p n) refl h
  where
    by_order : (i < length (numbers_where p n) → (get_or (numbers_where p n) i 0 < n) × (p (get_or (numbers_where p n) i 0) ≡ true)) → p n ≡ true → i < length (numbers_where p n ++ n ∷ []) → (i < length (numbers_where p n)) ⊎ (length (numbers_where p n) ≤ i) → (get_or (numbers_where p n ++ n ∷ []) i 0 < suc n) × (p (get_or (numbers_where p n ++ n ∷ []) i 0) ≡ true)
    by_order before e h (inl early) =
        let old = before early in
        let same : get_or (numbers_where p n ++ n ∷ []) i 0 ≡ get_or (numbers_where p n) i 0 = get_or_append_left (numbers_where p n) (n ∷ []) 0 i early in
        (omega (arith, old.0), ap p same ∙ old.1)
    by_order before e h (inr late) =
        let long : length (numbers_where p n ++ n ∷ []) ≡ length (numbers_where p n) + 1 = length-append (numbers_where p n) (n ∷ []) in
        let is : i ≡ length (numbers_where p n) = omega arith in
        let same : get_or (numbers_where p n ++ n ∷ []) i 0 ≡ n = ap (λ (j : ℕ). get_or (numbers_where p n ++ n ∷ []) j 0) is ∙ get_or-append_seam (numbers_where p n) n [] 0 in
        (omega arith, ap p same ∙ e)

    by_test : (i < length (numbers_where p n) → (get_or (numbers_where p n) i 0 < n) × (p (get_or (numbers_where p n) i 0) ≡ true)) → (b : Bool) → p n ≡ b → i < length (More p n b) → (get_or (More p n b) i 0 < suc n) × (p (get_or (More p n b) i 0) ≡ true)
    by_test before true e h = by_order before e h (cases_lt i (length (numbers_where p n)))
    by_test before false e h = let old = before h in (omega (arith, old.0), old.1)

pub record Stands (xs : List ℕ) (v : ℕ) : Type 0 where
  pub place : ℕ
  pub within : place < length xs
  pub is : get_or xs place 0 ≡ v

-- what passes stands there
pub those_all : (p : ℕ → Bool) (n v : ℕ) → v < n → p v ≡ true → Stands (numbers_where p n) v
those_all p zero v h pass = absurd (omega arith)
those_all p (suc n) v h pass = by_test (λ l. those_all p n v l pass) (p n) refl (cases_eq v n)
  where
    by_test : (v < n → Stands (numbers_where p n) v) → (b : Bool) → p n ≡ b → (v ≡ n) ⊎ (v ≢ n) → Stands (More p n b) v
    by_test before true e (inl is) = record { place = length (numbers_where p n); within = (let long = length-append (numbers_where p n) (n ∷ []) in omega arith); is = get_or-append_seam (numbers_where p n) n [] 0 ∙ sym is }
    by_test before true e (inr other) =
        let old = before (omega arith) in
        record { place = old.place; within = (let long = length-append (numbers_where p n) (n ∷ []) in let w = old.within in omega arith); is = get_or_append_left (numbers_where p n) (n ∷ []) 0 old.place old.within ∙ old.is }
    by_test before false e (inl is) = let same : p v ≡ p n = ap p is in cc
    by_test before false e (inr other) = before (omega arith)

pub rises_end : (xs : List ℕ) (low x : ℕ) → rises low xs ≡ true → ((i : ℕ) → i < length xs → get_or xs i 0 < x) → low ≤ x → rises low (xs ++ x ∷ []) ≡ true
rises_end [] low x up below h = (let e : nat_le low x ≡ true = le-leb low x h in rw e refl)
rises_end (y ∷ xs) low x up below h =
    let parts = and_parts (nat_le low y) (rises (y + 1) xs) up in
    let first : y < x = below 0 (omega arith) in
    let rest : rises (y + 1) (xs ++ x ∷ []) ≡ true = rises_end xs (y + 1) x parts.1 (λ i l. below (suc i) (omega arith)) (omega arith) in
    rw (parts.0, rest) refl

pub those_ascends : (p : ℕ → Bool) (n : ℕ) → ascends (numbers_where p n) ≡ true
those_ascends p zero = refl
those_ascends p (suc n) = by_test (those_ascends p n) (p n)
  where
    by_test : rises 0 (numbers_where p n) ≡ true → (b : Bool) → rises 0 (More p n b) ≡ true
    by_test before true = rises_end (numbers_where p n) 0 n before (λ i h. (those_only p n i h).0) (omega arith)
    by_test before false = before

-- whether a number stands there
pub those_has : (p : ℕ → Bool) (n v : ℕ) → v < n → is_some (position (λ m. m == v) (numbers_where p n)) ≡ p v
those_has p n v h = by_test (p v) refl
  where
    by_test : (b : Bool) → p v ≡ b → is_some (position (λ m. m == v) (numbers_where p n)) ≡ b
    by_test true e =
        let at = those_all p n v h e in
        ap is_some (place_found (numbers_where p n) v at.place (those_ascends p n) at.within at.is)
    by_test false e = ap is_some (place_missing (numbers_where p n) v (λ k l is. (let pass : p (get_or (numbers_where p n) k 0) ≡ true = (those_only p n k l).1 in let same : p (get_or (numbers_where p n) k 0) ≡ p v = ap p is in cc)))

pub those_has_not : (p : ℕ → Bool) (n v : ℕ) → n ≤ v → is_some (position (λ m. m == v) (numbers_where p n)) ≡ false
those_has_not p n v h = ap is_some (place_missing (numbers_where p n) v (λ k l is. (let low = (those_only p n k l).0 in omega arith)))

-- a column of a table by those numbers
pub column_at : {X : Type 0} (p : ℕ → Bool) (n v : ℕ) (f : ℕ → X) (d : X) (column : List X) → column ≡ map f (numbers_where p n) → v < n → p v ≡ true → option_map_or (λ i. get_or column i d) (position (λ m. m == v) (numbers_where p n)) d ≡ f v
column_at p n v f d column is h e =
    let at = those_all p n v h e in
    let place : position (λ m. m == v) (numbers_where p n) ≡ Some at.place = place_found (numbers_where p n) v at.place (those_ascends p n) at.within at.is in
    ap (λ (o : Option ℕ). option_map_or (λ i. get_or column i d) o d) place ∙ (ap (λ (l : List _). get_or l at.place d) is ∙ (get_or-map f (numbers_where p n) at.place 0 d at.within ∙ ap f at.is))

-- there are no more than that
pub those_few : (p : ℕ → Bool) (n : ℕ) → length (numbers_where p n) ≤ n
those_few p zero = omega arith
those_few p (suc n) = by_test (those_few p n) (p n)
  where
    by_test : length (numbers_where p n) ≤ n → (b : Bool) → length (More p n b) ≤ suc n
    by_test before true = let long = length-append (numbers_where p n) (n ∷ []) in omega arith
    by_test before false = omega arith
