-- Ratios in lowest terms, and why lower ones come to an end.
use Rattle.std.proofs.Common.{◌≡◌, ℕ, zero, suc, ◌+◌, ◌*◌, ◌/◌, ◌%◌, ◌<◌, ◌≤◌, ◌⊎◌, inl, inr, sym, ◌∙◌, ap, subst, arith}
use Rattle.std.specs.Int.{◌∣◌, IsGcd}
use Rattle.std.proofs.lemmas.Bool.{cases_lt}
use Rattle.std.proofs.lemmas.Nat.Gcd.{IsGcd-from_mod, IsGcd-from_zero}
use Rattle.std.proofs.Math.Nat.{mul-le-mul_left, mul-le-mul_right, div-mul_cancel, dvd-mul_left, mul-div_left, le-div_iff_mul-le, div-mul-le_self, mod-lt}

-- p and q have no common divisor where they are quotients by the greatest one
pub coprime : (t e g p q : ℕ) → 0 < g → IsGcd t e g → p * g ≡ t → q * g ≡ e → IsGcd p q 1
coprime t e g p q some is p_is q_is = (one p, one q, λ d in_p in_q. divides d in_p in_q)
  where
    one : (n : ℕ) → 1 ∣ n
    one n = subst (λ (m : ℕ). 1 ∣ m) (omega arith) (dvd-mul_left 1 n)

    times : (d n m : ℕ) → d ∣ n → n * g ≡ m → (d * g) ∣ m
    times d n m h e =
        let split : n / d * d ≡ n = div-mul_cancel d h in
        let all : n / d * (d * g) ≡ m = (let k : n / d * d * g ≡ n * g = ap (λ (x : ℕ). x * g) split in omega arith) in
        subst (λ (x : ℕ). (d * g) ∣ x) all (dvd-mul_left (d * g) (n / d))

    divides : (d : ℕ) → d ∣ p → d ∣ q → d ∣ 1
    divides d in_p in_q =
        let both : (d * g) ∣ g = is.2 (d * g) (times d p t in_p p_is) (times d q e in_q q_is) in
        let split : g / (d * g) * (d * g) ≡ g = div-mul_cancel (d * g) both in
        let scaled : g / (d * g) * d * g ≡ 1 * g = omega arith in
        let unit : g / (d * g) * d ≡ 1 = sym (mul-div_left (g / (d * g) * d) some) ∙ (ap (λ (n : ℕ). n / g) scaled ∙ mul-div_left 1 some) in
        subst (λ (x : ℕ). d ∣ x) unit (dvd-mul_left d (g / (d * g)))

pub positive_gcd : (t e g : ℕ) → 0 < e → IsGcd t e g → 0 < g
positive_gcd t e g some is = by_order (cases_lt 0 g)
  where
    by_order : (0 < g) ⊎ (g ≤ 0) → 0 < g
    by_order (inl h) = h
    by_order (inr h) =
        let split : e / g * g ≡ e = div-mul_cancel g is.1 in
        let none : g ≡ 0 = omega arith in
        let z : e / g * g ≡ e / g * 0 = ap (λ (n : ℕ). e / g * n) none in
        absurd (omega arith)

-- two numbers have a greatest common divisor
pub common : (most a b : ℕ) → b ≤ most → (d : ℕ) × IsGcd a b d
common zero a b few = (a, IsGcd-from_zero a b (omega arith))
common (suc most) a b few = by_zero (cases_lt 0 b) (λ h. common most b (a % b) (let less = mod-lt a h in omega arith))
  where
    by_zero : (0 < b) ⊎ (b ≤ 0) → (0 < b → (d : ℕ) × IsGcd b (a % b) d) → (d : ℕ) × IsGcd a b d
    by_zero (inl h) rest = let r = rest h in (r.0, IsGcd-from_mod a b r.0 r.1)
    by_zero (inr h) rest = (a, IsGcd-from_zero a b (omega arith))

-- a number less than another times a third
pub below_scaled : (a b c : ℕ) → c * a < c * b → a < b
below_scaled a b c h = by_order (cases_lt a b)
  where
    by_order : (a < b) ⊎ (b ≤ a) → a < b
    by_order (inl less) = less
    by_order (inr more) = let scaled : c * b ≤ c * a = mul-le-mul_left c more in absurd (omega arith)

pub most_scaled : (a b c : ℕ) → 1 ≤ c → c * a ≤ c * b → a ≤ b
most_scaled a b c some h = by_order (cases_lt b a)
  where
    by_order : (b < a) ⊎ (a ≤ b) → a ≤ b
    by_order (inl more) = let scaled : c * suc b ≤ c * a = mul-le-mul_left c more in absurd (omega arith)
    by_order (inr less) = less

-- of ratios t/e whose denominators are at most n, the whole part of n*n*t/e falls with the ratio
pub falls : (n t e lower long : ℕ) → 1 ≤ e → e ≤ n → 1 ≤ long → long ≤ n → e * lower < t * long → (n * n * lower) / long < (n * n * t) / e
falls n t e lower long some within some_long within_long less =
    let whole : n * n * lower / long * long ≤ n * n * lower = div-mul-le_self (n * n * lower) long in
    let scaled : e * (n * n * lower / long * long) ≤ e * (n * n * lower) = mul-le-mul_left e whole in
    let small : e * long ≤ n * n = (let a : e * long ≤ n * long = mul-le-mul_right long within in let b : n * long ≤ n * n = mul-le-mul_left n within_long in omega arith) in
    let grown : n * n * suc (e * lower) ≤ n * n * (t * long) = mul-le-mul_left (n * n) less in
    let more : long * ((n * n * lower / long + 1) * e) ≤ long * (n * n * t) = omega arith in
    let enough : (n * n * lower / long + 1) * e ≤ n * n * t = most_scaled ((n * n * lower / long + 1) * e) (n * n * t) long some_long more in
    let done : n * n * lower / long + 1 ≤ n * n * t / e = (le-div_iff_mul-le {k = e} {x = n * n * lower / long + 1} {y = n * n * t} some).1 enough in
    omega arith
