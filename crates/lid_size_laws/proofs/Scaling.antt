-- Products that are compared by a common factor.
use Rattle.std.proofs.Common.{◌≡◌, ℕ, suc, ◌*◌, ◌<◌, ◌≤◌, ◌⊎◌, inl, inr, ap, arith}
use Rattle.std.proofs.lemmas.Bool.{cases_lt}
use Rattle.std.proofs.Math.Nat.{mul-le-mul_left}

pub cancel : (a b c : ℕ) → 0 < c → c * a ≤ c * b → a ≤ b
cancel a b c some h = by_order (cases_lt b a)
  where
    by_order : (b < a) ⊎ (a ≤ b) → a ≤ b
    by_order (inl more) = let scaled : c * suc b ≤ c * a = mul-le-mul_left c more in absurd (omega arith)
    by_order (inr less) = less

-- a walk of ratio p'/q' that is not below p/q
pub compared : (p q p' q' long tokens : ℕ) → 0 < long → p * long ≤ q * tokens → q' * tokens ≡ p' * long → p * q' ≤ p' * q
compared p q p' q' long tokens some kept same =
    let scaled : q' * (p * long) ≤ q' * (q * tokens) = mul-le-mul_left q' kept in
    let across : q * (q' * tokens) ≡ q * (p' * long) = ap (λ (n : ℕ). q * n) same in
    cancel (p * q') (p' * q) long some (omega arith)

-- what is kept at a ratio is kept at a lower one
pub lowered : (p q p' q' long tokens : ℕ) → 1 ≤ q' → p * q' ≤ p' * q → p' * long ≤ q' * tokens → p * long ≤ q * tokens
lowered p q p' q' long tokens some less kept =
    let scaled : q * (p' * long) ≤ q * (q' * tokens) = mul-le-mul_left q kept in
    let wide : long * (p * q') ≤ long * (p' * q) = mul-le-mul_left long less in
    cancel (p * long) (q * tokens) q' some (omega arith)

-- of three ratios each at most the next
pub through : (p q p' q' p'' q'' : ℕ) → 1 ≤ q' → p * q' ≤ p' * q → p' * q'' ≤ p'' * q' → p * q'' ≤ p'' * q
through p q p' q' p'' q'' some first next =
    let a : q'' * (p * q') ≤ q'' * (p' * q) = mul-le-mul_left q'' first in
    let b : q * (p' * q'') ≤ q * (p'' * q') = mul-le-mul_left q next in
    cancel (p * q'') (p'' * q) q' some (omega arith)
