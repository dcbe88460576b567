-- Sums of sums, and sums of which all parts are 0 but for one.
use Rattle.std.proofs.Common.{◌≡◌, ℕ, zero, suc, ◌+◌, ◌<◌, List, [], ◌∷◌, refl, sym, ◌∙◌, ap, arith}
use Rattle.std.specs.Prelude.{Some, slice_get}
use Rattle.std.specs.List.{sum_by}
use Rattle.std.proofs.lemmas.List.Sums.{sum_by-cons}
use Rattle.std.proofs.lemmas.Option.{same_Some}
use mathlib.Core.Logic.{dite}
use native.Mathlib.Decide.{ℕ_discrete}
use Rattle.lid_free_crew.specs.Tallies.{sum_below}

pub sums_add : {X : Type 0} (f g h : X → ℕ) (xs : List X) → ((x : X) → g x ≡ f x + h x) → sum_by g xs ≡ sum_by f xs + sum_by h xs
sums_add f g h [] each = refl
sums_add f g h (x ∷ xs) each =
    omega (arith, sum_by-cons f x xs, sum_by-cons g x xs, sum_by-cons h x xs, each x, sums_add f g h xs each)

pub sum_none : {X : Type 0} (f : X → ℕ) (xs : List X) → ((i : ℕ) (x : X) → slice_get xs i ≡ Some x → f x ≡ 0) → sum_by f xs ≡ 0
sum_none f [] none = refl
sum_none f (x ∷ xs) none = omega (arith, sum_by-cons f x xs, none 0 x refl, sum_none f xs (λ i y at. none (suc i) y at))

pub sum_one : {X : Type 0} (f : X → ℕ) (xs : List X) (i : ℕ) (x : X) → slice_get xs i ≡ Some x → f x ≡ 1
    → ((j : ℕ) (y : X) → slice_get xs j ≡ Some y → (j ≡ i → ⊥) → f y ≡ 0) → sum_by f xs ≡ 1
sum_one f [] i x at one none = absurd (cc)
sum_one f (y ∷ ys) zero x at one none =
    let same = ap f (same_Some y x at) in
    omega (arith, sum_by-cons f y ys, same, one, sum_none f ys (λ j z there. none (suc j) z there (λ e. omega (arith, e))))
sum_one f (y ∷ ys) (suc i) x at one none =
    omega (arith, sum_by-cons f y ys, none 0 y refl (λ e. omega (arith, e)), sum_one f ys i x at one (λ j z there other. none (suc j) z there (λ e. other (omega (arith, e)))))

pub belows_add : (f g h : ℕ → ℕ) (n : ℕ) → ((k : ℕ) → g k ≡ f k + h k) → sum_below g n ≡ sum_below f n + sum_below h n
belows_add f g h zero each = refl
belows_add f g h (suc n) each = omega (arith, each n, belows_add f g h n each)

pub below_none : (f : ℕ → ℕ) (n : ℕ) → ((k : ℕ) → k < n → f k ≡ 0) → sum_below f n ≡ 0
below_none f zero none = refl
below_none f (suc n) none = omega (arith, none n (omega arith), below_none f n (λ k low. none k (omega (arith, low))))

pub below_one : (f : ℕ → ℕ) (n i : ℕ) → i < n → f i ≡ 1 → ((k : ℕ) → (k ≡ i → ⊥) → f k ≡ 0) → sum_below f n ≡ 1
below_one f zero i within one none = absurd (omega (arith, within))
below_one f (suc n) i within one none =
    dite (ℕ_discrete i n)
    (λ is. let last = ap f is in omega (arith, last, one, below_none f n (λ k low. none k (λ e. omega (arith, e, low, is)))))
    (λ other. omega (arith, below_one f n i (omega (arith, within, other)) one none, none n (λ e. other (sym e))))
