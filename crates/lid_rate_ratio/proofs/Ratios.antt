-- Ratios in lowest terms, and why lower ones come to an end.
use Rattle.std.proofs.Common.{◌≡◌, ℕ, zero, suc, ◌*◌, ◌/◌, ◌<◌, ◌≤◌, ap, arith}
use Rattle.std.specs.Int.{IsGcd}
use Rattle.std.proofs.Math.Nat.{mul-le-mul_left, div-mul_cancel, div-le_self}
use Rattle.lid_graph_ratio_laws.proofs.Lowest.{coprime, positive_gcd, below_scaled, falls as fraction_falls}
use Rattle.lid_rate_ratio.specs.CycleRatios.{IsLowest}

pub is_lowest : (t e g : ℕ) → 0 < e → IsGcd t e g → IsLowest t e (t / g) (e / g)
is_lowest t e g some is =
    let positive : 0 < g = positive_gcd t e g some is in
    let p_is : t / g * g ≡ t = div-mul_cancel g is.0 in
    let q_is : e / g * g ≡ e = div-mul_cancel g is.1 in
    record {
      positive = at_least (e / g) g e some q_is;
      coprime = coprime t e g (t / g) (e / g) positive is p_is q_is;
      same = (let a : e / g * (t / g * g) ≡ e / g * t = ap (λ (n : ℕ). e / g * n) p_is in let b : t / g * (e / g * g) ≡ t / g * e = ap (λ (n : ℕ). t / g * n) q_is in omega arith);
      least_p = div-le_self t g;
      least_q = div-le_self e g;
    }
  where
    at_least : (n g e : ℕ) → 0 < e → n * g ≡ e → 1 ≤ n
    at_least zero g e some is = absurd (omega arith)
    at_least (suc n) g e some is = omega arith

-- a closed walk of lower ratio has a lower ratio in lowest terms
lower_ratio : (p q t e p' q' : ℕ) → 0 < e → 1 ≤ q' → q' * t ≡ p' * e → q * t < p * e → q * p' < p * q'
lower_ratio p q t e p' q' some positive same lower =
    let scaled : q' * suc (q * t) ≤ q' * (p * e) = mul-le-mul_left q' lower in
    let across : q * (q' * t) ≡ q * (p' * e) = ap (λ (n : ℕ). q * n) same in
    below_scaled (q * p') (p * q') e (omega arith)

-- for denominators of at most n, the whole part of n*n*p/q falls with the ratio
pub falls : (n p q t e p' q' : ℕ) → 1 ≤ q → q ≤ n → e ≤ n → 0 < e → IsLowest t e p' q' → q * t < p * e → (n * n * p') / q' < (n * n * p) / q
falls n p q t e p' q' positive within short some lowest lower =
    fraction_falls n p q p' q' positive within lowest.positive (let l = lowest.least_q in omega arith) (lower_ratio p q t e p' q' some lowest.positive lowest.same lower)
