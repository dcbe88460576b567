-- Ascending lists, and where a number stands in one.
use Rattle.std.proofs.Common.{◌≡◌, ℕ, zero, suc, ◌+◌, ◌<◌, ◌≤◌, ◌==◌, ◌⊎◌, inl, inr, true, cond, List, [], ◌∷◌, length, get_or, nat_lt, position, Some, None, refl, sym, subst, arith}
use Rattle.std.specs.List.{position_or_len}
use Rattle.std.proofs.lemmas.Bool.{cases_lt, eq-eqb, ne_eqb, leb-true, and_parts, lt-ltb, le-ltb}
use Rattle.std.proofs.lemmas.List.Sums.{position_or_len_is}
use Rattle.lid_cert.specs.Certificates.{rises, ascends}

rises_low : (xs : List ℕ) (low k : ℕ) → rises low xs ≡ true → k < length xs → low ≤ get_or xs k 0
rises_low [] low k up h = absurd (omega arith)
rises_low (x ∷ xs) low zero up h = leb-true low x (and_parts _ _ up).0
rises_low (x ∷ xs) low (suc k) up h =
    let parts = and_parts _ _ up in
    let first : low ≤ x = leb-true low x parts.0 in
    let rest : x + 1 ≤ get_or xs k 0 = rises_low xs (x + 1) k parts.1 (omega arith) in
    omega arith

pub rises_pair : (xs : List ℕ) (low i j : ℕ) → rises low xs ≡ true → i < j → j < length xs → get_or xs i 0 < get_or xs j 0
rises_pair [] low i j up h within = absurd (omega arith)
rises_pair (x ∷ xs) low i zero up h within = absurd (omega arith)
rises_pair (x ∷ xs) low zero (suc j) up h within =
    let parts = and_parts _ _ up in
    let rest : x + 1 ≤ get_or xs j 0 = rises_low xs (x + 1) j parts.1 (omega arith) in
    omega arith
rises_pair (x ∷ xs) low (suc i) (suc j) up h within =
    rises_pair xs (x + 1) i j (and_parts _ _ up).1 (omega arith) (omega arith)

place_at : (i n : ℕ) → i < n → cond (nat_lt i n) (Some i) None ≡ Some i
place_at i n h = rw (lt-ltb i n h) refl

no_place : (n : ℕ) → cond (nat_lt n n) (Some n) None ≡ None
no_place n = rw (le-ltb n n (omega arith)) refl

-- a number of an ascending list stands in its place alone
pub place_found : (xs : List ℕ) (v i : ℕ) → ascends xs ≡ true → i < length xs → get_or xs i 0 ≡ v → position (λ n. n == v) xs ≡ Some i
place_found xs v i up h is =
    let first : position_or_len (λ n. n == v) xs ≡ i
    = position_or_len_is (λ n. n == v) xs i 0 (omega arith)
    (λ k below. ne_eqb (get_or xs k 0) v (λ same. let less : get_or xs k 0 < get_or xs i 0 = rises_pair xs 0 k i up below h in absurd (omega arith)))
    (λ within. eq-eqb (get_or xs i 0) v is) in
    subst (λ (n : ℕ). cond (nat_lt n (length xs)) (Some n) None ≡ Some i) (sym first) (place_at i (length xs) h)

pub place_missing : (xs : List ℕ) (v : ℕ) → ((k : ℕ) → k < length xs → get_or xs k 0 ≡ v → ⊥) → position (λ n. n == v) xs ≡ None
place_missing xs v none =
    let last : position_or_len (λ n. n == v) xs ≡ length xs
    = position_or_len_is (λ n. n == v) xs (length xs) 0 (omega arith)
    (λ k below. ne_eqb (get_or xs k 0) v (none k below))
    (λ within. absurd (omega arith)) in
    subst (λ (n : ℕ). cond (nat_lt n (length xs)) (Some n) None ≡ None) (sym last) (no_place (length xs))

-- halving: what is below the middle, and what is above it
pub below_middle : (xs : List ℕ) (v m : ℕ) → ascends xs ≡ true → m < length xs → get_or xs m 0 < v → (k : ℕ) → k < m + 1 → get_or xs k 0 < v
below_middle xs v m up h less k within = by_order (cases_lt k m)
  where
    by_order : (k < m) ⊎ (m ≤ k) → get_or xs k 0 < v
    by_order (inl l) = let pair : get_or xs k 0 < get_or xs m 0 = rises_pair xs 0 k m up l h in omega arith
    by_order (inr g) = let same : k ≡ m = omega arith in subst (λ (n : ℕ). get_or xs n 0 < v) (sym same) less

pub above_middle : (xs : List ℕ) (v m : ℕ) → ascends xs ≡ true → v < get_or xs m 0 → (k : ℕ) → m ≤ k → k < length xs → v < get_or xs k 0
above_middle xs v m up more k from within = by_order (cases_lt m k)
  where
    by_order : (m < k) ⊎ (k ≤ m) → v < get_or xs k 0
    by_order (inl l) = let pair : get_or xs m 0 < get_or xs k 0 = rises_pair xs 0 m k up l within in omega arith
    by_order (inr g) = let same : k ≡ m = omega arith in subst (λ (n : ℕ). v < get_or xs n 0) (sym same) more

-- nothing is left between
pub none_between : (xs : List ℕ) (v low high : ℕ) → high ≤ low → ((k : ℕ) → k < low → get_or xs k 0 < v) → ((k : ℕ) → high ≤ k → k < length xs → v < get_or xs k 0) → (k : ℕ) → k < length xs → get_or xs k 0 ≡ v → ⊥
none_between xs v low high met below above k h is = by_order (cases_lt k low)
  where
    by_order : (k < low) ⊎ (low ≤ k) → ⊥
    by_order (inl l) = let less : get_or xs k 0 < v = below k l in omega arith
    by_order (inr g) = let more : v < get_or xs k 0 = above k (omega arith) h in omega arith
