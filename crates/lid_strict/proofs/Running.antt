-- A run goes on by a row.
use Rattle.std.proofs.Common.{◌≡◌, ◌<◌, ◌+◌, ℕ, zero, suc, Bool, List, [], ◌∷◌, ◌++◌, length, map, slice_index_or, sym, ◌∙◌, ap, subst, arith, add-zero}
use Rattle.std.specs.List.{AllByRecursion}
use Rattle.lid_base.specs.Each.{from_each}
use Rattle.lid_strict_engine.specs.Rows.{bit_at}
use Rattle.lid_strict.specs.Networks.{rows_at}
use Rattle.lid_strict.specs.Layouts.{IsSettled, held_bits, FitsRow, IsStrictRun}
use Rattle.lid_strict.specs.declared.layout.Layout.{Layout}
use Rattle.lid_base.proofs.Each.{each_one_more}
use Rattle.lid_base.proofs.Lists.{all_among, map_same}

from_each_suc : {A : Type 0} (f : ℕ → A) (k n : ℕ) → from_each f k (suc n) ≡ from_each f k n ++ f (k + n) ∷ []
from_each_suc f k zero = ap (λ (m : ℕ). f m ∷ []) (sym (add-zero k))
from_each_suc f k (suc n) =
    let next : (k + 1) + n ≡ k + suc n = omega arith in
    ap (λ xs. f k ∷ xs) (from_each_suc f (k + 1) n ∙ ap (λ (m : ℕ). from_each f (k + 1) n ++ f m ∷ []) next)

map_agree : (f g : ℕ → Bool) (P : ℕ → Type 0) (xs : List ℕ) → AllByRecursion P xs → ((a : ℕ) → P a → f a ≡ g a) → map f xs ≡ map g xs
map_agree f g P xs all agree = map_same f g xs (λ a among. agree a (all_among P xs a all among))

pub runs_next : (p : Layout) (outs : List ℕ) (rows : List (List Bool)) (t : ℕ) (state state' bits row out : List Bool) (results : List (List Bool)) → AllByRecursion (IsSettled p) p.taken.items → AllByRecursion (IsSettled p) outs → t < length rows → row ≡ slice_index_or rows t [] → IsStrictRun p outs rows t state results → state' ≡ map (bit_at bits) p.taken.items → ((f : ℕ → Bool) → FitsRow p row state f → (k : ℕ) → IsSettled p k → bit_at bits k ≡ f k) → out ≡ map (bit_at bits) outs → IsStrictRun p outs rows (t + 1) state' (results ++ out ∷ [])
runs_next p outs rows t state state' bits row out results taken asked h same_row run goes right given b fits = (
  goes ∙ map_agree (bit_at bits) (b t) (IsSettled p) p.taken.items taken (right (b t) fit) ∙ ap (held_bits p.first.items p.taken.items b) next,
  ap (λ (rs : List (List Bool)). rs ++ out ∷ []) (run b fits).1
      ∙ ap (λ (r : List Bool). rows_at outs b t ++ r ∷ []) (given ∙ map_agree (bit_at bits) (b t) (IsSettled p) outs asked (right (b t) fit))
      ∙ sym (each_one_more (λ u. map (b u) outs) t),
)
  where
    next : suc t ≡ t + 1
    next = omega arith

    fit : FitsRow p row state (b t)
    fit =
        subst (λ (r : List Bool). FitsRow p r state (b t)) (sym same_row)
        (subst (λ (s : List Bool). FitsRow p (slice_index_or rows t []) s (b t)) (sym (run b fits).0) (fits t h))
