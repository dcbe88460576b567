-- Ratios that closed walks keep, and ratios that are compared.
use Rattle.std.proofs.Common.{◌≡◌, ℕ, ◌+◌, ◌*◌, ◌<◌, ◌≤◌, ◌⊎◌, inl, inr, List, length, ap, arith}
use Rattle.std.proofs.lemmas.Bool.{cases_lt}
use Rattle.std.proofs.Math.Nat.{mul-le-mul_left, le_of_mul-le-mul_left}
use Rattle.lid_graph.specs.declared.graph.Graph.{Graph}
use Rattle.lid_graph.specs.Walks.{walk_tokens}
use Rattle.lid_graph.specs.Ratios.{IsClosedWalkNear, IsRatio}

-- l edges and t tokens of the ratio p/q are no fewer tokens than a/b asks
pub exact_keeps : (p q a b l t : ℕ) → q * t ≡ p * l → 0 < l → a * l ≤ b * t → a * q ≤ p * b
exact_keeps p q a b l t is some keeps =
    let one : q * (a * l) ≤ q * (b * t) = mul-le-mul_left q keeps in
    let same : b * (q * t) ≡ b * (p * l) = ap (λ (n : ℕ). b * n) is in
    let all : l * (a * q) ≤ l * (p * b) = omega arith in
    le_of_mul-le-mul_left all some

-- what keeps p/q keeps what is no higher
pub keeps_lower : (p q a b l t : ℕ) → 1 ≤ q → a * q ≤ p * b → p * l ≤ q * t → a * l ≤ b * t
keeps_lower p q a b l t positive less keeps =
    let one : b * (p * l) ≤ b * (q * t) = mul-le-mul_left b keeps in
    let two : l * (a * q) ≤ l * (p * b) = mul-le-mul_left l less in
    let all : q * (a * l) ≤ q * (b * t) = omega arith in
    le_of_mul-le-mul_left all positive

less_of_mul : (q m n : ℕ) → q * m < q * n → m < n
less_of_mul q m n h = by_order (cases_lt m n)
  where
    by_order : (m < n) ⊎ (n ≤ m) → m < n
    by_order (inl less) = less
    by_order (inr more) = let all : q * n ≤ q * m = mul-le-mul_left q more in absurd (omega arith)

-- a walk of the ratio p/q below a/b
pub exact_below : (p q a b l t : ℕ) → q * t ≡ p * l → 0 < l → p * b < a * q → b * t < a * l
exact_below p q a b l t is some less =
    let one : l * (p * b + 1) ≤ l * (a * q) = mul-le-mul_left l (omega arith) in
    let same : b * (q * t) ≡ b * (p * l) = ap (λ (n : ℕ). b * n) is in
    less_of_mul q (b * t) (a * l) (omega arith)

-- and below what is no lower
pub below_higher : (a b d e l t : ℕ) → 1 ≤ e → a * e ≤ d * b → b * t < a * l → e * t < d * l
below_higher a b d e l t positive more less =
    let one : e * (b * t + 1) ≤ e * (a * l) = mul-le-mul_left e (omega arith) in
    let two : l * (a * e) ≤ l * (d * b) = mul-le-mul_left l more in
    less_of_mul b (e * t) (d * l) (omega arith)

module _ (g : Graph) (v : ℕ) where
  -- a ratio is at least what its component keeps
  pub ratio_keeps : (p q a b : ℕ) → IsRatio g v p q → ((ks : List ℕ) → IsClosedWalkNear g v ks → a * length ks ≤ b * walk_tokens g ks) → a * q ≤ p * b
  ratio_keeps p q a b ratio keeps = by_walk ratio.some
    where
      by_walk : (ks : List ℕ) × IsClosedWalkNear g v ks × (q * walk_tokens g ks ≡ p * length ks) → a * q ≤ p * b
      by_walk w = exact_keeps p q a b (length w.0) (walk_tokens g w.0) w.2 w.1.0.some (keeps w.0 w.1)

  -- and its component keeps what is no higher
  pub keeps_ratio : (p q a b : ℕ) → IsRatio g v p q → a * q ≤ p * b → (ks : List ℕ) → IsClosedWalkNear g v ks → a * length ks ≤ b * walk_tokens g ks
  keeps_ratio p q a b ratio less ks near = keeps_lower p q a b (length ks) (walk_tokens g ks) ratio.positive less (ratio.all ks near)

  -- a component has one ratio
  pub one_ratio : (p q a b : ℕ) → IsRatio g v p q → IsRatio g v a b → a * q ≤ p * b
  one_ratio p q a b ratio other = ratio_keeps p q a b ratio other.all
