-- The laws: a component's ratio with the lags of its transitions, and that they are the only ones.
use Rattle.std.proofs.Common.{◌≡◌, ℕ, zero, suc, ◌+◌, ◌*◌, ◌/◌, ◌-◌, ◌<◌, ◌≤◌, ◌⊎◌, inl, inr, List, length, refl, sym, ◌∙◌, ap, subst, arith}
use Rattle.std.specs.Int.{◌∣◌, IsGcd}
use Rattle.std.proofs.lemmas.Nat.Gcd.{same_from_IsGcd, le_of_dvd}
use Rattle.std.proofs.Math.Nat.{mul-le-mul_left, div-mul_cancel, dvd-mul_left, dvd_of_mul-dvd-mul_left}
use Rattle.lid_graph.specs.declared.graph.Graph.{Graph}
use Rattle.lid_graph.specs.Walks.{IsPaired, IsJoined, walk_tokens}
use Rattle.lid_graph.specs.Ratios.{IsRatio, IsLag}
use Rattle.lid_graph_ratio_laws.specs.Laws.{AreRatioAndLag, HasRatioAndLags, ComponentsHaveRatios, RatiosAreUnique, LagsAreUnique}
use Rattle.lid_graph_laws.proofs.Alive.{ends_below}
use Rattle.lid_graph_ratio_laws.proofs.Deciding.{joined_or_not}
use Rattle.lid_graph_ratio_laws.proofs.Lowest.{positive_gcd, common, most_scaled}
use Rattle.lid_graph_ratio_laws.proofs.Finding.{HasRatio, has_ratio, ratio_near}
use Rattle.lid_graph_ratio_laws.proofs.Lagging.{HasLag, has_lag}

pub components_have_ratios : ComponentsHaveRatios
components_have_ratios g v paired below = record {
  p = r.p;
  q = r.q;
  lag = λ w. lag_by w (joined_or_not g paired v w below);
  slow = r.slow;
  short = r.short;
  each = λ w joined. each_by w (joined_or_not g paired v w below) joined;
}
  where
    r : HasRatio g v
    r = has_ratio g paired v below

    ratio_at : (w : ℕ) → IsJoined g v w → IsRatio g w r.p r.q
    ratio_at w joined = ratio_near g paired v w r.p r.q joined r.is

    lag_at : (w : ℕ) → IsJoined g v w → HasLag g r.p r.q w
    lag_at w joined = has_lag g paired r.p r.q w (ends_below g paired v w joined.0 joined.1 below) (ratio_at w joined)

    lag_by : (w : ℕ) → IsJoined g v w ⊎ (IsJoined g v w → ⊥) → ℕ
    lag_by w (inl joined) = (lag_at w joined).most
    lag_by w (inr apart) = 0

    each_by : (w : ℕ) (d : IsJoined g v w ⊎ (IsJoined g v w → ⊥)) → IsJoined g v w → AreRatioAndLag g r.p r.q w (lag_by w d)
    each_by w (inl there) joined = record { ratio = ratio_at w there; lagging = (lag_at w there).is; few = (lag_at w there).few }
    each_by w (inr apart) joined = absurd (apart joined)

-- the greatest common divisor of two multiples of b, where the factors have none
scaled : (p q b : ℕ) → 1 ≤ q → 1 ≤ b → IsGcd p q 1 → IsGcd (p * b) (q * b) b
scaled p q b some_q some is = by_common (common (q * b) (p * b) (q * b) (omega arith))
  where
    one : (k : ℕ) → k ≤ 1 → (g : ℕ) → 0 < g → k * b ≡ g → b ≡ g
    one zero few g there h = absurd (omega arith)
    one (suc zero) few g there h = omega arith
    one (suc (suc k)) few g there h = absurd (omega arith)

    times_positive : (q b : ℕ) → 1 ≤ q → 1 ≤ b → 0 < q * b
    times_positive zero b some_q some = absurd (omega arith)
    times_positive (suc q) b some_q some = omega arith

    by_common : (d : ℕ) × IsGcd (p * b) (q * b) d → IsGcd (p * b) (q * b) b
    by_common d =
        let g = d.0 in
        let in_g : b ∣ g = d.1.2 b (dvd-mul_left b p) (dvd-mul_left b q) in
        let split : g / b * b ≡ g = div-mul_cancel b in_g in
        let turned : b * (g / b) ≡ g = omega arith in
        let of_p : b * (g / b) ∣ b * p = subst (λ (x : ℕ). x ∣ b * p) (sym turned) (subst (λ (x : ℕ). g ∣ x) (omega arith) d.1.0) in
        let of_q : b * (g / b) ∣ b * q = subst (λ (x : ℕ). x ∣ b * q) (sym turned) (subst (λ (x : ℕ). g ∣ x) (omega arith) d.1.1) in
        let in_one : (g / b) ∣ 1 = is.2 (g / b) (dvd_of_mul-dvd-mul_left (g / b) some of_p) (dvd_of_mul-dvd-mul_left (g / b) some of_q) in
        let there : 0 < g = positive_gcd (p * b) (q * b) g (times_positive q b some_q some) d.1 in
        subst (IsGcd (p * b) (q * b)) (sym (one (g / b) (le_of_dvd (omega arith) in_one) g there split)) d.1

-- no ratio is lower than another of the same component
not_lower : (g : Graph) (v p q a b : ℕ) → IsRatio g v p q → IsRatio g v a b → a * q ≤ p * b
not_lower g v p q a b first second =
    let w = first.some in
    let bound : a * length w.0 ≤ b * walk_tokens g w.0 = second.all w.0 w.1 in
    let scaled_up : q * (a * length w.0) ≤ q * (b * walk_tokens g w.0) = mul-le-mul_left q bound in
    let even : b * (q * walk_tokens g w.0) ≡ b * (p * length w.0) = ap (λ (x : ℕ). b * x) w.2 in
    most_scaled (a * q) (p * b) (length w.0) w.1.0.some (omega arith)

pub ratios_are_unique : RatiosAreUnique
ratios_are_unique g v p q a b first second =
    let same : p * b ≡ a * q = (let one = not_lower g v p q a b first second in let two = not_lower g v a b p q second first in omega arith) in
    let by_first : IsGcd (p * b) (q * b) b = scaled p q b first.positive second.positive first.lowest in
    let by_second : IsGcd (a * q) (b * q) q = scaled a b q second.positive first.positive second.lowest in
    let moved : IsGcd (p * b) (q * b) q = subst (λ (x : ℕ). IsGcd x (q * b) q) (sym same) (subst (λ (x : ℕ). IsGcd (a * q) x q) (omega arith) by_second) in
    let below : b ≡ q = same_from_IsGcd (p * b) (q * b) b q by_first moved in
    let both : q * p ≡ q * a = (let e : p * b ≡ p * q = ap (λ (x : ℕ). p * x) below in omega arith) in
    let up : p ≤ a = most_scaled p a q first.positive (omega arith) in
    let down : a ≤ p = most_scaled a p q first.positive (omega arith) in
    (omega arith, sym below)

pub lags_are_unique : LagsAreUnique
lags_are_unique g p q v x y first second =
    let one = second.all first.some.0 first.some.1 first.some.2 in
    let two = first.all second.some.0 second.some.1 second.some.2 in
    omega (arith, one, two, first.some.3, second.some.3)
