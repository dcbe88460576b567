-- Elements of shares, and sums over them.
use Rattle.std.proofs.Common.{◌≡◌, ℕ, zero, suc, ◌+◌, ◌*◌, ◌%◌, ◌<◌, ◌≤◌, ◌==◌, inl, inr, Bool, true, false, cond, List, [], ◌∷◌, ◌++◌, length, map, refl, sym, ◌∙◌, ap, subst, arith, eq-eqb, ne_eqb}
use Rattle.std.specs.Prelude.{if◌then◌else◌, Some, slice_get}
use Rattle.std.specs.List.{sum_by}
use Rattle.std.proofs.Math.Nat.{mod-lt}
use Rattle.std.proofs.lemmas.Bool.{eqb-true}
use Rattle.std.proofs.lemmas.List.Sums.{sum_by-cons, sum_by-append}
use Rattle.lid_base.specs.Each.{from_each}
use Rattle.lid_free_crew.specs.Tallies.{sum_below}
use Rattle.lid_free_crew.proofs.Sums.{belows_add, below_one, below_none}
use Rattle.lid_free_crew.specs.Shares.{is_own, picked, share, numbers_of}
use Rattle.lid_free_crew.proofs.Picking.{numbers_mine, numbers_other}

-- how many places before pass
abbrev pub rank : (ℕ → Bool) → ℕ → ℕ → ℕ
rank p k zero = 0
rank p k (suc v) = if p k then suc (rank p (suc k) v) else rank p (suc k) v

-- an element whose place passes
pub picked_at : {A : Type 0} (p : ℕ → Bool) (k : ℕ) (xs : List A) (v : ℕ) (x : A) → slice_get xs v ≡ Some x → p (k + v) ≡ true → slice_get (picked p k xs) (rank p k v) ≡ Some x
picked_at p k [] v x at passes = absurd (cc)
picked_at p k (y ∷ xs) zero x at passes =
    let z : k + 0 ≡ k = omega arith in
    ap (λ (b : Bool). slice_get (if b then y ∷ picked p (suc k) xs else picked p (suc k) xs) 0) (ap p (sym z) ∙ passes) ∙ at
picked_at p k (y ∷ xs) (suc v) x at passes =
    let s : suc k + v ≡ k + suc v = omega arith in
    by_first (p k) (picked_at p (suc k) xs v x at (ap p s ∙ passes))
  where
    by_first : (b : Bool) → slice_get (picked p (suc k) xs) (rank p (suc k) v) ≡ Some x
        → slice_get (if b then y ∷ picked p (suc k) xs else picked p (suc k) xs) (if b then suc (rank p (suc k) v) else rank p (suc k) v) ≡ Some x
    by_first true later = later
    by_first false later = later

-- where an element of a share stands in the whole
pub record IsFrom {A : Type 0} (p : ℕ → Bool) (k : ℕ) (xs : List A) (j : ℕ) (x : A) : Type 0 where
  pub place : ℕ
  pub at : slice_get xs place ≡ Some x
  pub passes : p (k + place) ≡ true
  pub ranks : rank p k place ≡ j

pub picked_from : {A : Type 0} (p : ℕ → Bool) (k : ℕ) (xs : List A) (j : ℕ) (x : A) → slice_get (picked p k xs) j ≡ Some x → IsFrom p k xs j x
picked_from p k [] j x at = absurd (cc)
picked_from {A} p k (y ∷ xs) j x at = by_first (p k) refl j at (λ i later. picked_from p (suc k) xs i x later)
  where
    further : (i : ℕ) (b : Bool) → p k ≡ b → IsFrom p (suc k) xs i x → IsFrom p k (y ∷ xs) (if b then suc i else i) x
    further i b is from = record {
      place = suc from.place;
      at = from.at;
      passes = let s : k + suc from.place ≡ suc k + from.place = omega arith in ap p s ∙ from.passes;
      ranks = ap (λ (c : Bool). if c then suc (rank p (suc k) from.place) else rank p (suc k) from.place) is ∙ ap (λ (n : ℕ). if b then suc n else n) from.ranks;
    }

    by_first : (b : Bool) → p k ≡ b → (j : ℕ) → slice_get (if b then y ∷ picked p (suc k) xs else picked p (suc k) xs) j ≡ Some x
        → ((i : ℕ) → slice_get (picked p (suc k) xs) i ≡ Some x → IsFrom p (suc k) xs i x) → IsFrom p k (y ∷ xs) j x
    by_first true is zero at_j later = record { place = 0; at = at_j; passes = (let z : k + 0 ≡ k = omega arith in ap p z ∙ is); ranks = refl }
    by_first true is (suc i) at_j later = further i true is (later i at_j)
    by_first false is j at_j later = further j false is (later j at_j)

-- a function of the elements of a share
pub picked_map : {A B : Type 0} (f : A → B) (p : ℕ → Bool) (k : ℕ) (xs : List A) → map f (picked p k xs) ≡ picked p k (map f xs)
picked_map f p k [] = refl
picked_map {A} {B} f p k (x ∷ xs) = by_first (p k) (picked_map f p (suc k) xs)
  where
    by_first : (b : Bool) → map f (picked p (suc k) xs) ≡ picked p (suc k) (map f xs)
        → map f (if b then x ∷ picked p (suc k) xs else picked p (suc k) xs) ≡ (if b then f x ∷ picked p (suc k) (map f xs) else picked p (suc k) (map f xs))
    by_first true later = ap (λ (l : List B). f x ∷ l) later
    by_first false later = later

pub picked_length : {A B : Type 0} (p : ℕ → Bool) (k : ℕ) (xs : List A) (ys : List B) → length xs ≡ length ys → length (picked p k xs) ≡ length (picked p k ys)
picked_length p k [] [] same = refl
picked_length p k [] (y ∷ ys) same = absurd (omega (arith, same))
picked_length p k (x ∷ xs) [] same = absurd (omega (arith, same))
picked_length p k (x ∷ xs) (y ∷ ys) same = by_first (p k) (picked_length p (suc k) xs ys (omega (arith, same)))
  where
    by_first : (b : Bool) → length (picked p (suc k) xs) ≡ length (picked p (suc k) ys)
        → length (if b then x ∷ picked p (suc k) xs else picked p (suc k) xs) ≡ length (if b then y ∷ picked p (suc k) ys else picked p (suc k) ys)
    by_first true later = omega (arith, later)
    by_first false later = later

pub picked_short : {A : Type 0} (p : ℕ → Bool) (k : ℕ) (xs : List A) → length (picked p k xs) ≤ length xs
picked_short p k [] = omega arith
picked_short p k (x ∷ xs) = by_first (p k) (picked_short p (suc k) xs)
  where
    by_first : (b : Bool) → length (picked p (suc k) xs) ≤ length xs → length (if b then x ∷ picked p (suc k) xs else picked p (suc k) xs) ≤ suc (length xs)
    by_first true later = omega (arith, later)
    by_first false later = omega (arith, later)

-- a sum over a share is one over the numbers of its elements
pub picks_sum : {A : Type 0} (f : A → ℕ) (g : ℕ → ℕ) (p : ℕ → Bool) (k : ℕ) (xs : List A) → ((v : ℕ) (x : A) → slice_get xs v ≡ Some x → f x ≡ g (k + v))
    → sum_by f (picked p k xs) ≡ sum_by g (picked p k (from_each (λ v. v) k (length xs)))
picks_sum f g p k [] same = refl
picks_sum f g p k (x ∷ xs) same =
    let s : k + 1 ≡ suc k = omega arith in
    let z : k + 0 ≡ k = omega arith in
    let later = picks_sum f g p (suc k) xs (λ v y at. let e : k + suc v ≡ suc k + v = omega arith in same (suc v) y at ∙ ap g e) in
    by_first (p k) (same 0 x refl ∙ ap g z) (later ∙ ap (λ (n : ℕ). sum_by g (picked p (suc k) (from_each (λ v. v) n (length xs)))) (sym s))
  where
    by_first : (b : Bool) → f x ≡ g k → sum_by f (picked p (suc k) xs) ≡ sum_by g (picked p (suc k) (from_each (λ v. v) (k + 1) (length xs)))
        → sum_by f (if b then x ∷ picked p (suc k) xs else picked p (suc k) xs)
        ≡ sum_by g (if b then k ∷ picked p (suc k) (from_each (λ v. v) (k + 1) (length xs)) else picked p (suc k) (from_each (λ v. v) (k + 1) (length xs)))
    by_first true here later = omega (arith, sum_by-cons f x (picked p (suc k) xs), sum_by-cons g k (picked p (suc k) (from_each (λ v. v) (k + 1) (length xs))), here, later)
    by_first false here later = later

-- the shares of all workers are the whole
one_share : (g : ℕ → ℕ) (workers n i : ℕ) → sum_by g (numbers_of workers i (suc n)) ≡ sum_by g (numbers_of workers i n) + cond (n % workers == i) (g n) 0
one_share g workers n i = by_own (n % workers == i) refl
  where
    by_own : (b : Bool) → (n % workers == i) ≡ b → sum_by g (numbers_of workers i (suc n)) ≡ sum_by g (numbers_of workers i n) + cond b (g n) 0
    by_own true is =
        let own = eqb-true (n % workers) i is in
        let more = ap (λ (j : ℕ). sum_by g (numbers_of workers j (suc n))) (sym own) ∙ ap (sum_by g) (numbers_mine workers n) in
        let parts = sum_by-append g (numbers_of workers (n % workers) n) (n ∷ []) in
        let last = sum_by-cons g n [] in
        let back = ap (λ (j : ℕ). sum_by g (numbers_of workers j n)) own in
        omega (arith, more, parts, last, back)
    by_own false is =
        let same = ap (sum_by g) (numbers_other workers i n (λ e. let t = sym is ∙ eq-eqb (n % workers) i e in absurd (cc))) in omega (arith, same)

-- one of several is all
only : (x m h : ℕ) → h < m → sum_below (λ i. cond (h == i) x 0) m ≡ x
only x zero h low = absurd (omega (arith, low))
only x (suc m) h low = by_last (h == m) refl (λ lower. only x m h lower)
  where
    by_last : (b : Bool) → (h == m) ≡ b → (h < m → sum_below (λ i. cond (h == i) x 0) m ≡ x) → sum_below (λ i. cond (h == i) x 0) m + cond b x 0 ≡ x
    by_last true is later =
        let same = eqb-true h m is in
        let none = below_none (λ i. cond (h == i) x 0) m (λ i lower. ap (λ (c : Bool). cond c x 0) (ne_eqb h i (λ e. omega (arith, e, lower, same)))) in
        omega (arith, none)
    by_last false is later =
        let other : (h ≡ m → ⊥) = (λ e. let t = sym is ∙ eq-eqb h m e in absurd (cc)) in
        let lower = later (omega (arith, low, other)) in
        omega (arith, lower)

pub whole_sum : (g : ℕ → ℕ) (workers n : ℕ) → 0 < workers → sum_below (λ i. sum_by g (numbers_of workers i n)) workers ≡ sum_below g n
whole_sum g workers zero some = below_none (λ i. 0) workers (λ i low. refl)
whole_sum g workers (suc n) some =
    let add = belows_add (λ i. sum_by g (numbers_of workers i n)) (λ i. sum_by g (numbers_of workers i (suc n))) (λ i. cond (n % workers == i) (g n) 0) workers (one_share g workers n) in
    let before = whole_sum g workers n some in
    let one = only (g n) workers (n % workers) (mod-lt n some) in
    omega (arith, add, before, one)
