-- Chains of instances from the models of an order have fewer steps than there are models.
use Rattle.std.proofs.Common.{◌≡◌, ℕ, zero, suc, ◌+◌, ◌≤◌, List, [], ◌∷◌, length, Some, inl, inr, sym, subst, arith}
use Rattle.lid_base.specs.Lists.{Among}
use Rattle.lid_design.specs.declared.Design.{Design}
use Rattle.lid_design.specs.Models.{instance_number, IsReached}
use Rattle.lid_check_hierarchy.specs.Surveys.{StandsAfterItsModels}
use Rattle.lid_check_drivers.specs.Judged.{IsJudged}

-- each chain of instances from a model has fewer than so many steps
abbrev pub IsShallow : Design → ℕ → ℕ → Type 0
IsShallow d zero k = ⊥
IsShallow d (suc n) k = (i j : ℕ) → instance_number d i k ≡ Some j → IsShallow d n j

module _ (d : Design) where
  pub shallow_next : (n k : ℕ) → IsShallow d n k → IsShallow d (suc n) k
  shallow_next zero k none = absurd none
  shallow_next (suc n) k subs = λ i j names. shallow_next n j (subs i j names)

  pub shallow_le : (n m k : ℕ) → n ≤ m → IsShallow d n k → IsShallow d m k
  shallow_le zero m k le none = absurd none
  shallow_le (suc n) zero k le subs = absurd (omega arith)
  shallow_le (suc n) (suc m) k le subs = λ i j names. shallow_le n m j (omega arith) (subs i j names)

  order_shallow : (found order : List ℕ) (total : ℕ) → length found + length order ≤ total → ((x : ℕ) → Among x found → IsShallow d (length found) x) → StandsAfterItsModels d found order → (k : ℕ) → Among k order → IsShallow d total k
  order_shallow found [] total le shallow after k among = absurd among
  order_shallow found (x ∷ order) total le shallow after k (inl same) =
      let here : IsShallow d (suc (length found)) x = λ i j names. shallow j (after.0 i j names) in
      shallow_le (suc (length found)) total k (omega arith) (subst (IsShallow d (suc (length found))) (sym same) here)
  order_shallow found (x ∷ order) total le shallow after k (inr among) =
      order_shallow (x ∷ found) order total (omega arith) (λ y here. by y here) after.1 k among
    where
      by : (y : ℕ) → Among y (x ∷ found) → IsShallow d (suc (length found)) y
      by y (inl same) = subst (IsShallow d (suc (length found))) (sym same) (λ i j names. shallow j (after.0 i j names))
      by y (inr here) = shallow_next (length found) y (shallow y here)

  -- no chain of instances from a reached model has as many steps as there are models
  pub shallow_of : IsJudged d → (k : ℕ) → IsReached d k → IsShallow d (length d.models) k
  shallow_of judged k reached =
      order_shallow [] judged.order (length d.models) (let short = judged.ordered.short in omega arith) (λ x none. absurd none) judged.ordered.after k (judged.ordered.each k reached)
