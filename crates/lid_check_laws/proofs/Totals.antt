-- Sums over consecutive numbers.
use Rattle.std.proofs.Common.{◌≡◌, ℕ, zero, suc, ◌+◌, ◌<◌, ◌≤◌, ◌==◌, Bool, true, false, cond, List, [], ◌∷◌, length, map, refl, ap, arith}
use Rattle.std.specs.List.{AllByRecursion, sum_by, count_by, range_with_len}
use Rattle.std.proofs.lemmas.Bool.{eqb-true, eqb-false, ne_eqb}
use Rattle.std.proofs.lemmas.List.Sums.{sum_by-cons}

-- the sum of a number for each of so many numbers from k on
abbrev pub total : (ℕ → ℕ) → ℕ → ℕ → ℕ
total g k zero = 0
total g k (suc n) = g k + total g (k + 1) n

pub total_add : (g h : ℕ → ℕ) (k n : ℕ) → total (λ j. g j + h j) k n ≡ total g k n + total h k n
total_add g h k zero = refl
total_add g h k (suc n) = let later = total_add g h (k + 1) n in omega arith

pub total_less : (g h : ℕ → ℕ) (k n : ℕ) → ((j : ℕ) → k ≤ j → j < k + n → g j ≤ h j) → total g k n ≤ total h k n
total_less g h k zero less = omega arith
total_less g h k (suc n) less =
    let here = less k (omega arith) (omega arith) in
    let later = total_less g h (k + 1) n (λ j low high. less j (omega arith) (omega arith)) in
    omega arith

pub total_same : (g h : ℕ → ℕ) (k n : ℕ) → ((j : ℕ) → g j ≡ h j) → total g k n ≡ total h k n
total_same g h k zero same = refl
total_same g h k (suc n) same = let here = same k in let later = total_same g h (k + 1) n same in omega arith

pub total_one : (k n : ℕ) → total (λ j. 1) k n ≡ n
total_one k zero = refl
total_one k (suc n) = let later = total_one (k + 1) n in omega arith

pub total_none : (k n : ℕ) → total (λ j. 0) k n ≡ 0
total_none k zero = refl
total_none k (suc n) = let later = total_none (k + 1) n in omega arith

-- what is summed over numbers is summed over what they stand for
pub total_each : {A : Type 0} (f : A → ℕ) (g : ℕ → A) (k n : ℕ) → sum_by f (map g (range_with_len k n)) ≡ total (λ j. f (g j)) k n
total_each f g k zero = refl
total_each f g k (suc n) =
    let one = sum_by-cons f (g k) (map g (range_with_len (k + 1) n)) in
    let later = total_each f g (k + 1) n in
    omega arith

never : (x k n : ℕ) → x < k → total (λ j. cond (x == j) 1 0) k n ≡ 0
never x k zero low = refl
never x k (suc n) low =
    let here : cond {A = ℕ} (x == k) 1 0 ≡ 0 = ap (λ (b : Bool). cond {A = ℕ} b 1 0) (ne_eqb x k (λ same. absurd (omega arith))) in
    let later = never x (k + 1) n (omega arith) in
    omega arith

-- one of the numbers is x
pub once : (x k n : ℕ) → k ≤ x → x < k + n → total (λ j. cond (x == j) 1 0) k n ≡ 1
once x k zero low high = absurd (omega arith)
once x k (suc n) low high = by (x == k) refl (λ other. let differ : x ≡ k → ⊥ = eqb-false x k other in once x (k + 1) n (omega arith) (omega arith))
  where
    by : (b : Bool) → (x == k) ≡ b → ((x == k) ≡ false → total (λ j. cond (x == j) 1 0) (k + 1) n ≡ 1) → cond (x == k) 1 0 + total (λ j. cond (x == j) 1 0) (k + 1) n ≡ 1
    by true e next =
        let here : cond {A = ℕ} (x == k) 1 0 ≡ 1 = ap (λ (b : Bool). cond {A = ℕ} b 1 0) e in
        let equal = eqb-true x k e in
        let later = never x (k + 1) n (omega arith) in
        omega arith
    by false e next =
        let here : cond {A = ℕ} (x == k) 1 0 ≡ 0 = ap (λ (b : Bool). cond {A = ℕ} b 1 0) e in
        let later = next e in
        omega arith

-- items that belong to numbers below n are counted once over these numbers
pub total_counts : {A : Type 0} (f : A → ℕ) (n : ℕ) (xs : List A) → AllByRecursion (λ x. f x < n) xs → total (λ j. count_by (λ x. f x == j) xs) 0 n ≡ length xs
total_counts f n [] all = total_none 0 n
total_counts f n (x ∷ xs) all =
    let split = total_same (λ j. count_by (λ x. f x == j) (x ∷ xs)) (λ j. cond (f x == j) 1 0 + count_by (λ x. f x == j) xs) 0 n (λ j. sum_by-cons (λ y. cond (f y == j) 1 0) x xs) in
    let sum = total_add (λ j. cond (f x == j) 1 0) (λ j. count_by (λ x. f x == j) xs) 0 n in
    let one = once (f x) 0 n (omega arith) (let h = all.0 in omega arith) in
    let later = total_counts f n xs all.1 in
    omega arith
