-- Sums of weights over numbers to which items belong.
use Rattle.std.proofs.Common.{◌≡◌, ℕ, zero, suc, ◌+◌, ◌*◌, ◌<◌, ◌≤◌, ◌==◌, Bool, true, false, cond, List, [], ◌∷◌, length, refl, ap, mul-le-mul_left, arith}
use Rattle.std.specs.Prelude.{slice_get}
use Rattle.std.specs.Option.{option_map_or}
use Rattle.std.specs.List.{AllByRecursion, sum_by, count_by}
use Rattle.std.proofs.lemmas.Bool.{eqb-true, eqb-false, ne_eqb}
use Rattle.std.proofs.lemmas.List.Sums.{sum_by-cons}
use Rattle.lid_base.specs.Each.{from_each}
use Rattle.lid_check_laws.proofs.Totals.{total, total_add, total_same, total_none}

apart : (w x k n : ℕ) → x < k → total (λ j. cond (x == j) w 0) k n ≡ 0
apart w x k zero low = refl
apart w x k (suc n) low =
    let here : cond {A = ℕ} (x == k) w 0 ≡ 0 = ap (λ (b : Bool). cond {A = ℕ} b w 0) (ne_eqb x k (λ same. absurd (omega arith))) in
    let later = apart w x (k + 1) n (omega arith) in
    omega arith

-- one of the numbers at most is x
most_once : (w x k n : ℕ) → total (λ j. cond (x == j) w 0) k n ≤ w
most_once w x k zero = omega arith
most_once w x k (suc n) = by (x == k) refl (most_once w x (k + 1) n)
  where
    by : (b : Bool) → (x == k) ≡ b → total (λ j. cond (x == j) w 0) (k + 1) n ≤ w → cond (x == k) w 0 + total (λ j. cond (x == j) w 0) (k + 1) n ≤ w
    by true e later =
        let here : cond {A = ℕ} (x == k) w 0 ≡ w = ap (λ (b : Bool). cond {A = ℕ} b w 0) e in
        let equal = eqb-true x k e in
        let none = apart w x (k + 1) n (omega arith) in
        omega arith
    by false e later = let here : cond {A = ℕ} (x == k) w 0 ≡ 0 = ap (λ (b : Bool). cond {A = ℕ} b w 0) e in omega arith

-- and one of them is, where x lies among them
least_once : (w x k n : ℕ) → k ≤ x → x < k + n → w ≤ total (λ j. cond (x == j) w 0) k n
least_once w x k zero low high = absurd (omega arith)
least_once w x k (suc n) low high = by (x == k) refl (λ other. let differ : x ≡ k → ⊥ = eqb-false x k other in least_once w x (k + 1) n (omega arith) (omega arith))
  where
    by : (b : Bool) → (x == k) ≡ b → ((x == k) ≡ false → w ≤ total (λ j. cond (x == j) w 0) (k + 1) n) → w ≤ cond (x == k) w 0 + total (λ j. cond (x == j) w 0) (k + 1) n
    by true e next = let here : cond {A = ℕ} (x == k) w 0 ≡ w = ap (λ (b : Bool). cond {A = ℕ} b w 0) e in omega arith
    by false e next = let later = next e in omega arith

module _ {A : Type 0} (f w : A → ℕ) where
  -- the weights of the items that belong to a number
  abbrev pub weight_at : List A → ℕ → ℕ
  weight_at xs j = sum_by (λ x. cond (f x == j) (w x) 0) xs

  split : (x : A) (xs : List A) (n : ℕ) → total (weight_at (x ∷ xs)) 0 n ≡ total (λ j. cond (f x == j) (w x) 0) 0 n + total (weight_at xs) 0 n
  split x xs n =
      let each = total_same (weight_at (x ∷ xs)) (λ j. cond (f x == j) (w x) 0 + weight_at xs j) 0 n (λ j. sum_by-cons (λ y. cond (f y == j) (w y) 0) x xs) in
      let both = total_add (λ j. cond (f x == j) (w x) 0) (weight_at xs) 0 n in
      omega arith

  -- items are counted at most once over numbers
  pub spread_few : (n : ℕ) (xs : List A) → total (weight_at xs) 0 n ≤ sum_by w xs
  spread_few n [] = let none = total_none 0 n in omega arith
  spread_few n (x ∷ xs) =
      let parts = split x xs n in
      let one = most_once (w x) (f x) 0 n in
      let later = spread_few n xs in
      let whole = sum_by-cons w x xs in
      omega arith

  -- and at least once where they belong to these numbers
  pub spread_all : (n : ℕ) (xs : List A) → AllByRecursion (λ x. f x < n) xs → sum_by w xs ≤ total (weight_at xs) 0 n
  spread_all n [] all = omega arith
  spread_all n (x ∷ xs) all =
      let parts = split x xs n in
      let one = least_once (w x) (f x) 0 n (omega arith) (let h = all.0 in omega arith) in
      let later = spread_all n xs all.1 in
      let whole = sum_by-cons w x xs in
      omega arith

pub sum_ones : {A : Type 0} (xs : List A) → sum_by (λ (x : A). 1) xs ≡ length xs
sum_ones [] = refl
sum_ones {A} (x ∷ xs) =
    let whole = sum_by-cons (λ (x : A). 1) x xs in
    let later = sum_ones xs in
    omega arith

pub shifted : (g : ℕ → ℕ) (k n : ℕ) → total g (k + 1) n ≡ total (λ j. g (suc j)) k n
shifted g k zero = refl
shifted g k (suc n) =
    let here : g (k + 1) ≡ g (suc k) = (let next : k + 1 ≡ suc k = omega arith in ap g next) in
    let later = shifted g (k + 1) n in
    omega arith

nothing_at : {A : Type 0} (h : A → ℕ) (i : ℕ) → option_map_or h (slice_get [] i) 0 ≡ 0
nothing_at h zero = refl
nothing_at h (suc i) = refl

-- the items at so many places weigh no more than all
pub total_slots : {A : Type 0} (h : A → ℕ) (xs : List A) (n : ℕ) → total (λ i. option_map_or h (slice_get xs i) 0) 0 n ≤ sum_by h xs
total_slots h [] n =
    let same = total_same (λ i. option_map_or h (slice_get [] i) 0) (λ i. 0) 0 n (λ i. nothing_at h i) in
    let none = total_none 0 n in
    omega arith
total_slots h (x ∷ xs) zero = omega arith
total_slots h (x ∷ xs) (suc n) =
    let next : total (λ i. option_map_or h (slice_get (x ∷ xs) i) 0) 1 n ≡ total (λ i. option_map_or h (slice_get xs i) 0) 0 n = shifted (λ i. option_map_or h (slice_get (x ∷ xs) i) 0) 0 n in
    let later = total_slots h xs n in
    let whole = sum_by-cons h x xs in
    omega arith

-- a sum over so many numbers
pub sum_each : {A : Type 0} (f : A → ℕ) (g : ℕ → A) (k n : ℕ) → sum_by f (from_each g k n) ≡ total (λ j. f (g j)) k n
sum_each f g k zero = refl
sum_each f g k (suc n) =
    let one = sum_by-cons f (g k) (from_each g (k + 1) n) in
    let later = sum_each f g (k + 1) n in
    omega arith

-- those that pass a test weigh one after the other
weights_where : {A : Type 0} (p : A → Bool) (w : ℕ) (xs : List A) → sum_by (λ x. cond (p x) w 0) xs ≡ w * count_by p xs
weights_where p w [] = omega arith
weights_where {A} p w (x ∷ xs) =
    let here = by (p x) in
    let whole = sum_by-cons (λ (y : A). cond {A = ℕ} (p y) w 0) x xs in
    let counted : count_by p (x ∷ xs) ≡ cond {A = ℕ} (p x) 1 0 + count_by p xs = sum_by-cons (λ (y : A). cond {A = ℕ} (p y) 1 0) x xs in
    let scaled : w * count_by p (x ∷ xs) ≡ w * (cond {A = ℕ} (p x) 1 0 + count_by p xs) = ap (λ (n : ℕ). w * n) counted in
    let later = weights_where p w xs in
    omega arith
  where
    by : (b : Bool) → cond {A = ℕ} b w 0 ≡ w * cond {A = ℕ} b 1 0
    by true = omega arith
    by false = omega arith

-- where one at most passes a test, those that do weigh no more than one
pub sum_where : {A : Type 0} (p : A → Bool) (w : ℕ) (xs : List A) → count_by p xs ≤ 1 → sum_by (λ x. cond (p x) w 0) xs ≤ w
sum_where p w xs few =
    let all = weights_where p w xs in
    let most : w * count_by p xs ≤ w * 1 = mul-le-mul_left w few in
    omega arith
