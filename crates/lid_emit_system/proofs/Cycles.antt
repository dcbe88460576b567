-- Rows of the cycles in which a count rises.
use Rattle.std.proofs.Common.{◌≡◌, ℕ, zero, suc, ◌+◌, ◌-◌, ◌<◌, ◌≤◌, ◌⊎◌, inl, inr, Bool, true, false, cond, List, [], ◌∷◌, ◌++◌, length, map, Some, slice_get, refl, sym, ◌∙◌, ap, subst, arith, append_assoc, length-append}
use Rattle.std.proofs.lemmas.List.{append-nil}
use Rattle.std.proofs.lemmas.Bool.{cases_lt}
use Rattle.lid_base.specs.Each.{from_each}
use Rattle.lid_emit_circuit.specs.Runs.{rows_where}
use Rattle.lid_emit_circuit.proofs.Holding.{risen}
use Rattle.lid_emit_system.specs.Faces.{AreInStep}
use Rattle.lid_base.proofs.Places.{get_left, get_last}
use Rattle.lid_base.proofs.Each.{each_append}

-- so many numbers, and what a list has
pub each_is_map : {A B : Type 0} (f : ℕ → B) (g : A → B) (xs : List A) (k : ℕ) → ((j : ℕ) (x : A) → slice_get xs j ≡ Some x → f (k + j) ≡ g x) → from_each f k (length xs) ≡ map g xs
each_is_map f g [] k same = refl
each_is_map {A} {B} f g (x ∷ xs) k same =
    let here : k + 0 ≡ k = omega arith in
    let head : f k ≡ g x = ap f (sym here) ∙ same 0 x refl in
    let tail : from_each f (k + 1) (length xs) ≡ map g xs = each_is_map f g xs (k + 1) (λ j y h. let next : (k + 1) + j ≡ k + suc j = omega arith in ap f next ∙ same (suc j) y h) in
    ap (λ (y : B). y ∷ from_each f (k + 1) (length xs)) head ∙ ap (λ (ys : List B). g x ∷ ys) tail

module _ (picked : ℕ → Bool) (row : ℕ → List Bool) (count : ℕ → ℕ) (first : count 0 ≡ 0) (step : (k : ℕ) → count (suc k) ≡ risen (picked k) (count k)) where
  abbrev pub rows_so_far : ℕ → List (List Bool)
  rows_so_far n = rows_where picked row n

  -- there are as many as the count
  pub as_many : (n : ℕ) → length (rows_so_far n) ≡ count n
  as_many zero = sym first
  as_many (suc n) = by (picked n) (as_many n) ∙ sym (step n)
    where
      by : (x : Bool) → length (rows_so_far n) ≡ count n → length (rows_so_far n ++ cond x (row n ∷ []) []) ≡ risen x (count n)
      by true before = length-append (rows_so_far n) (row n ∷ []) ∙ ap (λ (m : ℕ). m + 1) before
      by false before = ap length (append-nil (rows_so_far n)) ∙ before

  -- the row of a cycle stands at the count
  pub row_there : (n k : ℕ) → k < n → picked k ≡ true → slice_get (rows_so_far n) (count k) ≡ Some (row k)
  row_there zero k below is = absurd (omega arith)
  row_there (suc n) k below is = by (cases_lt k n) (λ less. row_there n k less is)
    where
      last : (x : Bool) → x ≡ true → slice_get (rows_so_far n ++ cond x (row n ∷ []) []) (count n) ≡ Some (row n)
      last true h = ap (slice_get (rows_so_far n ++ row n ∷ [])) (sym (as_many n)) ∙ get_last (rows_so_far n) (row n)
      last false h = cc

      by : (k < n) ⊎ (n ≤ k) → (k < n → slice_get (rows_so_far n) (count k) ≡ Some (row k)) → slice_get (rows_so_far (suc n)) (count k) ≡ Some (row k)
      by (inl less) before = get_left (rows_so_far n) (cond (picked n) (row n ∷ []) []) (count k) (row k) (before less)
      by (inr most) before =
          let same : n ≡ k = omega arith in
          subst (λ (j : ℕ). slice_get (rows_so_far (suc n)) (count j) ≡ Some (row j)) same (last (picked n) (ap picked same ∙ is))

  module _ (f : ℕ → List Bool) (many n : ℕ) (is_row : (k : ℕ) → k < n → picked k ≡ true → count k < many → row k ≡ f (count k)) where
    -- the rows so far are the first of what is wanted, or begin with all of it
    abbrev Follows : ℕ → Type 0
    Follows k = ((count k ≤ many) × (rows_so_far k ≡ from_each f 0 (count k))) ⊎ ((many < count k) × ((more : List (List Bool)) × (rows_so_far k ≡ from_each f 0 many ++ more)))

    one_more : (m : ℕ) → from_each f 0 m ++ f m ∷ [] ≡ from_each f 0 (m + 1)
    one_more m = let place : m ≡ 0 + m = omega arith in ap (λ (j : ℕ). from_each f 0 m ++ f j ∷ []) place ∙ sym (each_append f 0 m 1)

    follows_next : (k : ℕ) → k < n → Follows k → (x : Bool) → picked k ≡ x → count (suc k) ≡ risen x (count k) → rows_so_far (suc k) ≡ rows_so_far k ++ cond x (row k ∷ []) [] → Follows (suc k)
    follows_next k below (inl before) false is on grown = inl (omega (arith, on, before.0), grown ∙ append-nil (rows_so_far k) ∙ before.1 ∙ ap (from_each f 0) (sym on))
    follows_next k below (inr before) false is on grown = inr (omega (arith, on, before.0), (before.1.0, grown ∙ append-nil (rows_so_far k) ∙ before.1.1))
    follows_next k below (inr before) true is on grown =
        inr (omega (arith, on, before.0), (before.1.0 ++ row k ∷ [], grown ∙ ap (λ (xs : List (List Bool)). xs ++ row k ∷ []) before.1.1 ∙ append_assoc (from_each f 0 many) before.1.0 (row k ∷ [])))
    follows_next k below (inl before) true is on grown = by (cases_lt (count k) many)
      where
        by : (count k < many) ⊎ (many ≤ count k) → Follows (suc k)
        by (inl less) =
            inl (omega (arith, on), grown ∙ ap (λ (xs : List (List Bool)). xs ++ row k ∷ []) before.1 ∙ ap (λ (y : List Bool). from_each f 0 (count k) ++ y ∷ []) (is_row k below is less) ∙ one_more (count k) ∙ ap (from_each f 0) (sym on))
        by (inr most) =
            let same : count k ≡ many = omega (arith, before.0) in
            inr (omega (arith, on), (row k ∷ [], grown ∙ ap (λ (xs : List (List Bool)). xs ++ row k ∷ []) before.1 ∙ ap (λ (m : ℕ). from_each f 0 m ++ row k ∷ []) same))

    follows : (k : ℕ) → k ≤ n → Follows k
    follows zero within = inl (omega (arith, first), ap (from_each f 0) (sym first))
    follows (suc k) within = follows_next k within (follows k (omega arith)) (picked k) refl (step k) refl

    pub in_step : AreInStep (rows_so_far n) (from_each f 0 many)
    in_step = by (follows n (omega arith))
      where
        by : Follows n → AreInStep (rows_so_far n) (from_each f 0 many)
        by (inl before) =
            let whole : many ≡ count n + (many - count n) = omega (arith, before.0) in
            inl (from_each f (0 + count n) (many - count n), ap (from_each f 0) whole ∙ each_append f 0 (count n) (many - count n) ∙ ap (λ (xs : List (List Bool)). xs ++ from_each f (0 + count n) (many - count n)) (sym before.1))
        by (inr before) = inr (before.1.0, before.1.1)
