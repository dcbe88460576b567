-- The numbers of a range that pass a test.
use Rattle.std.proofs.Common.{◌≡◌, ℕ, zero, suc, ◌+◌, ◌<◌, ◌≤◌, Bool, true, false, cond, List, ◌∷◌, refl, sym, ap, subst, arith, eq-eqb, ne_eqb}
use Rattle.std.specs.Prelude.{Some, slice_get, filter}
use Rattle.std.proofs.lemmas.Option.{same_Some}
use Rattle.lid_base.specs.Each.{from_each}
use Rattle.lid_shell_laws.specs.Runs.{place_in}
use mathlib.Core.Logic.{dite}
use native.Mathlib.Decide.{ℕ_discrete}

-- the numbers of a range that pass
abbrev pub passing : (ℕ → Bool) → ℕ → ℕ → List ℕ
passing f first n = filter f (from_each (λ j. j) first n)

-- a number of a range that passes
pub record Passes (f : ℕ → Bool) (first n x : ℕ) : Type 0 where
  pub from : first ≤ x
  pub to : x < first + n
  pub passes : f x ≡ true

one_more : (f : ℕ → Bool) (first n : ℕ) (b : Bool) → f first ≡ b
    → ((i x : ℕ) → slice_get (passing f (first + 1) n) i ≡ Some x → Passes f (first + 1) n x)
    → (i x : ℕ) → slice_get (cond b (first ∷ passing f (first + 1) n) (passing f (first + 1) n)) i ≡ Some x → Passes f first (suc n) x
one_more f first n true e more zero x h =
    let same : first ≡ x = same_Some first x h in
    record { from = omega arith; to = omega arith; passes = subst (λ (y : ℕ). f y ≡ true) same e }
one_more f first n true e more (suc i) x h =
    let known = more i x h in
    let low : first + 1 ≤ x = known.from in
    let high : x < (first + 1) + n = known.to in
    record { from = omega arith; to = omega arith; passes = known.passes }
one_more f first n false e more i x h =
    let known = more i x h in
    let low : first + 1 ≤ x = known.from in
    let high : x < (first + 1) + n = known.to in
    record { from = omega arith; to = omega arith; passes = known.passes }

-- each of them passes
pub each_passes : (f : ℕ → Bool) (first n i x : ℕ) → slice_get (passing f first n) i ≡ Some x → Passes f first n x
each_passes f first zero i x h = absurd (cc)
each_passes f first (suc n) i x h = one_more f first n (f first) refl (each_passes f (first + 1) n) i x h

-- a number that stands in a list has a place there
abbrev HasPlace : List ℕ → ℕ → Type 0
HasPlace xs x = (i : ℕ) × (slice_get xs i ≡ Some x)

behind : (b : Bool) (y : ℕ) (xs : List ℕ) (x : ℕ) → HasPlace xs x → HasPlace (cond b (y ∷ xs) xs) x
behind true y xs x place = (suc place.0, place.1)
behind false y xs x place = place

-- each number that passes has a place among them
pub each_has_a_place : (f : ℕ → Bool) (first n x : ℕ) → first ≤ x → x < first + n → f x ≡ true → (i : ℕ) × (slice_get (passing f first n) i ≡ Some x)
each_has_a_place f first zero x from to passes = absurd (omega arith)
each_has_a_place f first (suc n) x from to passes =
    dite (ℕ_discrete x first)
    (λ same.
    let here : f first ≡ true = subst (λ (y : ℕ). f y ≡ true) same passes in
    let whole : HasPlace (cond true (first ∷ passing f (first + 1) n) (passing f (first + 1) n)) x = (0, ap (λ (y : ℕ). Some y) (sym same)) in
    subst (λ (b : Bool). HasPlace (cond b (first ∷ passing f (first + 1) n) (passing f (first + 1) n)) x) (sym here) whole)
    (λ other. behind (f first) first (passing f (first + 1) n) x (each_has_a_place f (first + 1) n x (omega arith) (omega arith) passes))

-- no number that passes stands twice among them: its first place is its place
one_place : (f : ℕ → Bool) (first n : ℕ) (b : Bool)
    → ((i x : ℕ) → slice_get (passing f (first + 1) n) i ≡ Some x → place_in (passing f (first + 1) n) x ≡ i)
    → (i x : ℕ) → slice_get (cond b (first ∷ passing f (first + 1) n) (passing f (first + 1) n)) i ≡ Some x
    → place_in (cond b (first ∷ passing f (first + 1) n) (passing f (first + 1) n)) x ≡ i
one_place f first n true more zero x h =
    rw (eq-eqb first x (same_Some first x h)) refl
one_place f first n true more (suc i) x h =
    let low : first + 1 ≤ x = (each_passes f (first + 1) n i x h).from in
    rw (ne_eqb first x (λ same. omega (arith, low, same))) (ap suc (more i x h))
one_place f first n false more i x h = more i x h

pub place_of_passing : (f : ℕ → Bool) (first n i x : ℕ) → slice_get (passing f first n) i ≡ Some x → place_in (passing f first n) x ≡ i
place_of_passing f first zero i x h = absurd (cc)
place_of_passing f first (suc n) i x h = one_place f first n (f first) (place_of_passing f (first + 1) n) i x h
