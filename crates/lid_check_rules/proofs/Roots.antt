-- Conditions on the root.
use Rattle.std.proofs.Common.{◌≡◌, ℕ, ◌<◌, ◌≤◌, List, [], ◌∷◌, length, get_or, Some, None, refl, arith}
use Rattle.lid_check_rules.specs.declared.fault.CheckFault.TheVariants.{TwoClocks}
use Rattle.lid_check_rules.specs.Conditions.{first_two}

-- fewer than two names
pub few_names : (names : List (List ℕ)) → length names < 2 → None ≡ first_two names
few_names [] h = refl
few_names (x ∷ []) h = refl
few_names (x ∷ y ∷ names) h = absurd (omega arith)

-- two or more
pub two_names : (names : List (List ℕ)) → 2 ≤ length names → Some (TwoClocks (get_or names 0 []) (get_or names 1 [])) ≡ first_two names
two_names [] h = absurd (omega arith)
two_names (x ∷ []) h = absurd (omega arith)
two_names (x ∷ y ∷ names) h = refl
