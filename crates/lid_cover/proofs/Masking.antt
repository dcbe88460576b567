-- A row of a cover agrees with inputs when its masks agree with them packed.
use Rattle.std.proofs.Common.{◌≡◌, ℕ, zero, suc, ◌+◌, ◌*◌, ◌/◌, ◌%◌, ◌^◌, ◌<◌, ◌==◌, min, Bool, true, false, not, cond, ◌&&◌, ◌||◌, bit_and, bit_xor, List, [], ◌∷◌, length, refl, sym, ◌∙◌, ap, subst, arith, pow-suc}
use Rattle.std.specs.List.{list_any, AllByRecursion}
use Rattle.std.specs.Int.Bits.{and_step, and_zero_r}
use Rattle.std.proofs.lemmas.Bool.{eqb-true, eq-eqb}
use Rattle.std.proofs.lemmas.Nat.{xor_shr}
use mathlib.Core.Bool.{beq}
use Rattle.lid_cover.specs.declared.Cover.{Cover}
use Rattle.std.proofs.lemmas.Nat.Bits.{bit_at_xor, bit_at_lowest}
use Rattle.lid_cover.specs.declared.Cube.{Cube}
use Rattle.lid_cover.specs.Cover.{same_bit, lowest_bit, fits, agrees, cover_value, IsCube, IsCover}
use Rattle.lid_cover.specs.Masks.{packed, is_met}

abbrev one : Bool → ℕ
one bit = cond bit 1 0

half_packed : (bit : Bool) (n : ℕ) → (one bit + 2 * n) / 2 ≡ n
half_packed true n = omega arith
half_packed false n = omega arith

lowest_packed : (bit : Bool) (n : ℕ) → (one bit + 2 * n) % 2 ≡ one bit
lowest_packed true n = omega arith
lowest_packed false n = omega arith

not_zero : (n : ℕ) → (n ≡ 0 → ⊥) → (n == 0) ≡ false
not_zero n h = by_test (n == 0) refl
  where
    by_test : (b : Bool) → (n == 0) ≡ b → b ≡ false
    by_test true e = absurd (h (eqb-true n 0 e))
    by_test false e = refl

eqb-false : (n : ℕ) → (n == 0) ≡ false → n ≡ 0 → ⊥
eqb-false n e z = let good : (n == 0) ≡ true = eq-eqb n 0 z in cc

-- a number is 0 when its lowest bit and the rest are
zero_parts : (a m : ℕ) → (a * 2 + m == 0) ≡ ((m == 0) && (a == 0))
zero_parts a m = by_tests (m == 0) (a == 0) refl refl
  where
    by_tests : (x y : Bool) → (m == 0) ≡ x → (a == 0) ≡ y → (a * 2 + m == 0) ≡ (x && y)
    by_tests true true e f =
        let z = eqb-true m 0 e in
        let w = eqb-true a 0 f in
        eq-eqb (a * 2 + m) 0 (omega arith)
    by_tests true false e f = not_zero (a * 2 + m) (λ z. eqb-false a f (omega arith))
    by_tests false y e f = not_zero (a * 2 + m) (λ z. eqb-false m e (omega arith))

-- one place of the masks
lowest_met : (bit : Bool) (value care : ℕ) → value < 2 → care < 2 → (min ((one bit + value) % 2) care == 0) ≡ (not (care == 1) || same_bit (value == 1) bit)
lowest_met true zero zero v c = refl
lowest_met true zero (suc zero) v c = refl
lowest_met true (suc zero) zero v c = refl
lowest_met true (suc zero) (suc zero) v c = refl
lowest_met false zero zero v c = refl
lowest_met false zero (suc zero) v c = refl
lowest_met false (suc zero) zero v c = refl
lowest_met false (suc zero) (suc zero) v c = refl
lowest_met bit (suc (suc value)) care v c = absurd (omega arith)
lowest_met bit value (suc (suc care)) v c = absurd (omega arith)

pub met_fits : (inputs : List Bool) (care value : ℕ) → care < 2 ^ length inputs → (bit_and (bit_xor (packed inputs) value) care == 0) ≡ fits care value inputs
met_fits [] care value h =
    let none : care ≡ 0 = omega arith in
    ap (λ (c : ℕ). bit_and (bit_xor 0 value) c == 0) none ∙ ap (λ (x : ℕ). x == 0) (and_zero_r (bit_xor 0 value))
met_fits (bit ∷ bits) care value h =
    let p : ℕ = packed (bit ∷ bits) in
    let x : ℕ = bit_xor p value in
    let rest : x / 2 ≡ bit_xor (packed bits) (value / 2) = xor_shr p value 1 ∙ ap (λ (n : ℕ). bit_xor n (value / 2)) (half_packed bit (packed bits)) in
    let low_xor = bit_at_xor p value 0 in
    let low_x = bit_at_lowest x in
    let low_p = bit_at_lowest p in
    let low_value = bit_at_lowest value in
    let low_bit = lowest_packed bit (packed bits) in
    let low : x % 2 ≡ (one bit + value % 2) % 2 = cc in
    let within : care / 2 < 2 ^ length bits = (let e = pow-suc 2 (length bits) in omega arith) in
    let first : (min (x % 2) (care % 2) == 0) ≡ (not (lowest_bit care) || same_bit (lowest_bit value) bit) = ap (λ (n : ℕ). min n (care % 2) == 0) low ∙ lowest_met bit (value % 2) (care % 2) (omega arith) (omega arith) in
    let later : (bit_and (x / 2) (care / 2) == 0) ≡ fits (care / 2) (value / 2) bits = ap (λ (n : ℕ). bit_and n (care / 2) == 0) rest ∙ met_fits bits (care / 2) (value / 2) within in
    ap (λ (n : ℕ). n == 0) (and_step x care)
    ∙ zero_parts (bit_and (x / 2) (care / 2)) (min (x % 2) (care % 2))
    ∙ ap (λ (b : Bool). b && (bit_and (x / 2) (care / 2) == 0)) first
    ∙ ap (λ (b : Bool). (not (lowest_bit care) || same_bit (lowest_bit value) bit) && b) later

any_fits : (inputs : List Bool) (cubes : List Cube) → AllByRecursion (IsCube (length inputs)) cubes → list_any (is_met (packed inputs)) cubes ≡ list_any (agrees inputs) cubes
any_fits inputs [] rules = refl
any_fits inputs (cube ∷ cubes) rules =
    let head = met_fits inputs cube.care cube.value rules.0.in_range in
    let tail = any_fits inputs cubes rules.1 in
    ap (λ (b : Bool). b || list_any (is_met (packed inputs)) cubes) head ∙ ap (λ (b : Bool). agrees inputs cube || b) tail

beq_same_bit : (on found : Bool) → beq found on ≡ same_bit on found
beq_same_bit true true = refl
beq_same_bit true false = refl
beq_same_bit false true = refl
beq_same_bit false false = refl

-- what the masks say is the value of the cover
pub met_value : (cover : Cover) → IsCover cover → (inputs : List Bool) → length inputs ≡ cover.inputs → (found : Bool) → found ≡ list_any (is_met (packed inputs)) cover.cubes → beq found cover.on ≡ cover_value cover inputs
unfolding cover_value
met_value cover rules inputs long found e =
    let R : ℕ → Type 0 = λ n. AllByRecursion (IsCube n) cover.cubes in
    beq_same_bit cover.on found ∙ ap (same_bit cover.on) (e ∙ any_fits inputs cover.cubes (subst R (sym long) rules.cubes))
