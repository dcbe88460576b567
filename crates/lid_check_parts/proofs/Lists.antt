-- Lists that are made along an order, in which each number stands once.
use Rattle.std.proofs.Common.{◌≡◌, ◌⊎◌, ◌<◌, ◌≤◌, ◌+◌, ℕ, zero, suc, List, [], ◌∷◌, ◌++◌, length, take, get_or, inl, inr, refl, sym, ◌∙◌, ap, subst, arith}
use Rattle.std.specs.List.{AllByRecursion, flat_map, range_with_len}
use Rattle.std.proofs.lemmas.List.{take_more, append-nil}
use Rattle.std.proofs.lemmas.Grind.{flat_map-append}
use Rattle.lid_base.specs.Lists.{Among}
use Rattle.lid_check_digraph.specs.Graphs.{IsOrder}
use Rattle.lid_check_digraph.proofs.Lists.{index_among, among_take}

pub all_range : (P : ℕ → Type 0) (a n : ℕ) → ((k : ℕ) → a ≤ k → k < a + n → P k) → AllByRecursion P (range_with_len a n)
all_range P a zero each = tt
all_range P a (suc n) each = (each a (omega arith) (omega arith), all_range P (a + 1) n (λ k first last. each k (omega arith) (omega arith)))

pub among_range : (a n k : ℕ) → a ≤ k → k < a + n → Among k (range_with_len a n)
among_range a zero k first last = absurd (omega arith)
among_range a (suc n) k first last = elim (first_or_later a k first) [
  | inl here ↦ inl (sym here)
  | inr later ↦ inr (among_range (a + 1) n k later (omega arith))
]
  where
    first_or_later : (a k : ℕ) → a ≤ k → (a ≡ k) ⊎ (a + 1 ≤ k)
    first_or_later zero zero h = inl refl
    first_or_later zero (suc k) h = inr (omega arith)
    first_or_later (suc a) zero h = absurd (omega arith)
    first_or_later (suc a) (suc k) h = elim (first_or_later a k (omega arith)) [
      | inl here ↦ inl (ap suc here)
      | inr later ↦ inr (omega arith)
    ]

-- no number stands twice
abbrev pub AreApart : List ℕ → Type 0
AreApart xs = (i j : ℕ) → i < j → j < length xs → get_or xs i 0 ≡ get_or xs j 0 → ⊥

tail_apart : (x : ℕ) (xs : List ℕ) → AreApart (x ∷ xs) → AreApart xs
tail_apart x xs apart i j before below equal = apart (suc i) (suc j) (omega arith) (omega arith) equal

not_later : (x : ℕ) (xs : List ℕ) → AreApart (x ∷ xs) → Among x xs → ⊥
not_later x xs apart among =
    let at = index_among x xs among in
    let h = at.1 in
    apart zero (suc at.0) (omega arith) (omega arith) (sym at.2)

pub order_apart : (g : List (List ℕ)) (order : List ℕ) → IsOrder g order → AreApart order
order_apart g order ordered i j before below equal =
    ordered.once j below (subst (λ (k : ℕ). Among k (take j order)) equal (among_take order i j before (omega arith)))

module _ {A : Type 0} (f : ℕ → List A) (k : ℕ) (others : (j : ℕ) → (j ≡ k → ⊥) → f j ≡ []) where
  pub flat_none : (xs : List ℕ) → (Among k xs → ⊥) → flat_map f xs ≡ []
  flat_none [] none = refl
  flat_none (x ∷ xs) none =
      ap (λ (ys : List A). ys ++ flat_map f xs) (others x (λ e. none (inl (sym e)))) ∙ flat_none xs (λ among. none (inr among))

  pub flat_one : (xs : List ℕ) → AreApart xs → Among k xs → flat_map f xs ≡ f k
  flat_one [] apart among = absurd among
  flat_one (x ∷ xs) apart (inl here) =
      ap (λ (ys : List A). f x ++ ys) (flat_none xs (λ among. not_later x xs apart (subst (λ (j : ℕ). Among j xs) here among)))
      ∙ append-nil (f x)
      ∙ ap f (sym here)
  flat_one (x ∷ xs) apart (inr later) =
      ap (λ (ys : List A). ys ++ flat_map f xs) (others x (λ e. not_later x xs apart (subst (λ (j : ℕ). Among j xs) (sym e) later)))
      ∙ flat_one xs (tail_apart x xs apart) later

-- a list that grows along an order
pub flat_more : {A : Type 0} (f : ℕ → List A) (order : List ℕ) (i : ℕ) → i < length order → flat_map f (take (i + 1) order) ≡ flat_map f (take i order) ++ f (get_or order i 0)
flat_more {A} f order i h =
    ap (flat_map f) (take_more order i 0 h)
    ∙ flat_map-append f (take i order) (get_or order i 0 ∷ [])
    ∙ ap (λ (ys : List A). flat_map f (take i order) ++ ys) (append-nil (f (get_or order i 0)))

pub range_more : (a n : ℕ) → range_with_len a (n + 1) ≡ range_with_len a n ++ (a + n) ∷ []
range_more a zero = ap (range_with_len a) (let e : 0 + 1 ≡ 1 = omega arith in e) ∙ ap (λ (k : ℕ). k ∷ []) (let e : a ≡ a + 0 = omega arith in e)
range_more a (suc n) =
    let last : a + 1 + n ≡ a + suc n = omega arith in
    let next : suc n + 1 ≡ suc (n + 1) = omega arith in
    ap (range_with_len a) next ∙ ap (λ (ks : List ℕ). a ∷ ks) (range_more (a + 1) n ∙ ap (λ (k : ℕ). range_with_len (a + 1) n ++ k ∷ []) last)

-- one more step of a list that is pushed along an order
pub pushed_more : {A : Type 0} (f : ℕ → List A) (order : List ℕ) (i : ℕ) → i < length order → (old before new xs : List A) → xs ≡ f (get_or order i 0) → before ≡ old ++ flat_map f (take i order) → new ≡ before ++ xs → new ≡ old ++ flat_map f (take (i + 1) order)
pushed_more {A} f order i h old before new xs is so_far pushed =
    pushed
    ∙ ap (λ (ys : List A). before ++ ys) is
    ∙ ap (λ (ys : List A). ys ++ f (get_or order i 0)) so_far
    ∙ append_assoc old (flat_map f (take i order)) (f (get_or order i 0))
    ∙ ap (λ (ys : List A). old ++ ys) (sym (flat_more f order i h))
  where
    append_assoc : {B : Type 0} (xs ys zs : List B) → (xs ++ ys) ++ zs ≡ xs ++ (ys ++ zs)
    append_assoc [] ys zs = refl
    append_assoc {B} (x ∷ xs) ys zs = ap (λ (ws : List B). x ∷ ws) (append_assoc xs ys zs)
