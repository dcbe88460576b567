-- The last of some stalls.
use Rattle.std.proofs.Common.{◌≡◌, ℕ, suc, ◌-◌, ◌<◌, nat_lt, List, [], ◌∷◌, length, get_or, refl, ap, ◌∙◌, arith}
use Rattle.lid_stall_text.specs.declared.stalls.Stall.{Stall}
use Rattle.lid_stall_text.specs.Stalls.{is_after}

pub after_last : (stalls : List Stall) (cycle : ℕ) (d : Stall) → 0 < length stalls → nat_lt (get_or stalls (length stalls - 1) d).cycle cycle ≡ is_after stalls cycle
after_last [] cycle d some = absurd (omega arith)
after_last (stall ∷ []) cycle d some = refl
after_last (stall ∷ next ∷ stalls) cycle d some =
    let place : length (stall ∷ next ∷ stalls) - 1 ≡ suc (length (next ∷ stalls) - 1) = omega arith in
    ap (λ (n : ℕ). nat_lt (get_or (stall ∷ next ∷ stalls) n d).cycle cycle) place ∙ after_last (next ∷ stalls) cycle d (omega arith)
