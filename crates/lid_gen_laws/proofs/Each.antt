-- Lists of an item for each number.
use Rattle.std.proofs.Common.{◌≡◌, ℕ, zero, suc, ◌+◌, ◌<◌, Bool, true, false, List, [], ◌∷◌, ◌++◌, inl, inr, refl, ◌∙◌, ap, subst, arith}
use Rattle.std.specs.List.{AllByRecursion, IsDistinct}
use Rattle.std.specs.Str.{bytes_eq}
use Rattle.lid_base.specs.Lists.{Among}
use Rattle.lid_base.proofs.Lists.{all_append, same_bytes}
use Rattle.lid_base.specs.Each.{from_each}
use Rattle.lid_base.proofs.Each.{all_each_below}

from_among : {A : Type 0} (f : ℕ → A) (k n : ℕ) (x : A) → Among x (from_each f k n) → (i : ℕ) × (i < n) × (x ≡ f (k + i))
from_among f k zero x among = absurd among
from_among f k (suc n) x (inl is) = let e : k ≡ k + 0 = omega arith in (0, omega arith, is ∙ ap f e)
from_among f k (suc n) x (inr later) =
    let found = from_among f (k + 1) n x later in
    let less = found.1 in
    let e : (k + 1) + found.0 ≡ k + suc found.0 = omega arith in
    (suc found.0, omega arith, found.2 ∙ ap f e)

pub each_among : {A : Type 0} (f : ℕ → A) (n : ℕ) (x : A) → Among x (from_each f 0 n) → (i : ℕ) × (i < n) × (x ≡ f i)
each_among f n x among =
    let found = from_among f 0 n x among in
    let e : 0 + found.0 ≡ found.0 = omega arith in
    (found.0, found.1, found.2 ∙ ap f e)

among_from : {A : Type 0} (f : ℕ → A) (k n i : ℕ) → i < n → Among (f (k + i)) (from_each f k n)
among_from f k zero i less = absurd (omega (arith, less))
among_from f k (suc n) zero less = let e : k + 0 ≡ k = omega arith in inl (ap f e)
among_from {A} f k (suc n) (suc i) less =
    let e : (k + 1) + i ≡ k + suc i = omega arith in
    inr (subst (λ (m : ℕ). Among (f m) (from_each f (k + 1) n)) e (among_from f (k + 1) n i (omega (arith, less))))

pub among_each : {A : Type 0} (f : ℕ → A) (n i : ℕ) → i < n → Among (f i) (from_each f 0 n)
among_each f n i less =
    let e : 0 + i ≡ i = omega arith in
    subst (λ (m : ℕ). Among (f m) (from_each f 0 n)) e (among_from f 0 n i less)

-- two names that are not the same
pub apart : (x y : List ℕ) → ¬ (x ≡ y) → bytes_eq x y ≡ false
apart x y other = by (bytes_eq x y) refl
  where
    by : (b : Bool) → bytes_eq x y ≡ b → bytes_eq x y ≡ false
    by true e = absurd (other (same_bytes x y e))
    by false e = e

pub all_apart : (x : List ℕ) (ys : List (List ℕ)) → ((y : List ℕ) → Among y ys → ¬ (x ≡ y)) → AllByRecursion (λ y. bytes_eq x y ≡ false) ys
all_apart x [] other = tt
all_apart x (y ∷ ys) other = (apart x y (other y (inl refl)), all_apart x ys (λ z among. other z (inr among)))

pub distinct_join : (xs ys : List (List ℕ)) → IsDistinct bytes_eq xs → IsDistinct bytes_eq ys → ((x y : List ℕ) → Among x xs → Among y ys → ¬ (x ≡ y)) → IsDistinct bytes_eq (xs ++ ys)
unfolding IsDistinct
distinct_join [] ys left right other = right
distinct_join (x ∷ xs) ys left right other = (
  all_append (λ y. bytes_eq x y ≡ false) xs ys left.0 (all_apart x ys (λ y among. other x y (inl refl) among)),
  distinct_join xs ys left.1 right (λ z y here there. other z y (inr here) there),
)

pub all_below : {A : Type 0} (P : A → Type 0) (f : ℕ → A) (n : ℕ) → ((i : ℕ) → i < n → P (f i)) → AllByRecursion P (from_each f 0 n)
all_below P f n each = all_each_below P f 0 n (λ i less. each i (omega (arith, less)))
