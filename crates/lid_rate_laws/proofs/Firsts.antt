-- The first number of which something holds.
use Rattle.std.proofs.Common.{ℕ, zero, suc, ◌≤◌, ◌⊎◌, inl, inr, arith}

pub record IsFirst (P : ℕ → Type 0) (n : ℕ) : Type 0 where
  pub here : P n
  pub first : (m : ℕ) → P m → n ≤ m

-- what is decided of each number, and holds of one, holds of a first
pub first_of : (P : ℕ → Type 0) → ((k : ℕ) → P k ⊎ (P k → ⊥)) → (n : ℕ) → P n → (m : ℕ) × IsFirst P m
first_of P decided zero is = (0, record { here = is; first = λ m h. omega arith })
first_of P decided (suc n) is = by_zero (decided 0) (first_of (λ k. P (suc k)) (λ k. decided (suc k)) n is)
  where
    later : (P 0 → ⊥) → (m : ℕ) → ((k : ℕ) → P (suc k) → m ≤ k) → (k : ℕ) → P k → suc m ≤ k
    later none m first zero h = absurd (none h)
    later none m first (suc k) h = let least : m ≤ k = first k h in omega arith

    by_zero : P 0 ⊎ (P 0 → ⊥) → (m : ℕ) × IsFirst (λ k. P (suc k)) m → (m : ℕ) × IsFirst P m
    by_zero (inl h) rest = (0, record { here = h; first = λ m k. omega arith })
    by_zero (inr none) rest = (suc rest.0, record { here = rest.1.here; first = later none rest.0 rest.1.first })
