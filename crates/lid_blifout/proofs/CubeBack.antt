-- The characters of a row give its cube back.
use Rattle.std.proofs.Common.{◌≡◌, ℕ, zero, suc, ◌+◌, ◌*◌, ◌^◌, ◌/◌, ◌%◌, ◌<◌, ◌≤◌, Bool, true, false, cond, refl, sym, ap, ◌∙◌, arith, inl, inr}
use Rattle.std.specs.Prelude.{map, bit_and}
use Rattle.std.specs.Int.Bits.{and_zero_r}
use Rattle.std.proofs.lemmas.Nat.{and_block}
use Rattle.std.proofs.lemmas.Bool.{cases_Bool, cond-true, cond-false, eqb-true, eqb-false}
use Rattle.std.proofs.Math.Nat.{pow-succ'}
use Rattle.lid_cover.specs.Cover.{lowest_bit}
use Rattle.lid_blif.specs.Designs.{mask_of, is_cared_for, is_character_one}
use Rattle.lid_blifout.specs.Canonical.{characters}

-- a bit as a number
abbrev bit : Bool → ℕ
bit b = cond b 1 0

bit_is : (n : ℕ) → bit (lowest_bit n) ≡ n % 2
bit_is n =
    elim (cases_Bool (lowest_bit n)) [
      | inl yes' ↦ cond-true (lowest_bit n) 1 0 yes' ∙ sym (eqb-true (n % 2) 1 yes')
      | inr no' ↦ let apart : n % 2 ≡ 1 → ⊥ = eqb-false (n % 2) 1 no' in let none : 0 ≡ n % 2 = omega arith in cond-false (lowest_bit n) 1 0 no' ∙ none
    ]

cared_bit : (a b : Bool) → bit (is_cared_for (cond a (cond b 49 48) 45)) ≡ bit a
cared_bit true true = refl
cared_bit true false = refl
cared_bit false b = refl

value_bit : (a b : Bool) → bit (is_character_one (cond a (cond b 49 48) 45)) ≡ bit_and (bit b) (bit a)
value_bit true true = refl
value_bit true false = refl
value_bit false true = refl
value_bit false false = refl

bit_small : (a b : Bool) → bit_and (bit b) (bit a) ≤ 1
bit_small true true = omega arith
bit_small true false = omega arith
bit_small false true = omega arith
bit_small false false = omega arith

pub cared_back : (n care value : ℕ) → care < 2 ^ n → mask_of (map is_cared_for (characters n care value)) ≡ care
cared_back zero care value h = let small : care < 1 = h in omega arith
cared_back (suc n) care value h =
    let power = pow-succ' 2 n in
    let half : care / 2 < 2 ^ n = omega (arith, power) in
    let later = cared_back n (care / 2) (value / 2) half in
    let last = cared_bit (lowest_bit care) (lowest_bit value) ∙ bit_is care in
    omega (arith, later, last)

halves : (n : ℕ) → n ≡ (n / 2) * 2 ^ 1 + n % 2
halves n = omega arith

pub value_back : (n care value : ℕ) → care < 2 ^ n → bit_and value care ≡ value → mask_of (map is_character_one (characters n care value)) ≡ value
value_back zero care value h within =
    let small : care < 1 = h in
    let none : care ≡ 0 = omega arith in
    sym (and_zero_r value) ∙ ap (bit_and value) (sym none) ∙ within
value_back (suc n) care value h within =
    let power = pow-succ' 2 n in
    let half : care / 2 < 2 ^ n = omega (arith, power) in
    let low : value % 2 < 2 ^ 1 = omega arith in
    let low_care : care % 2 < 2 ^ 1 = omega arith in
    let split : bit_and value care ≡ bit_and (value / 2) (care / 2) * 2 ^ 1 + bit_and (value % 2) (care % 2) =
    ap (λ (x : ℕ). bit_and x care) (halves value) ∙ ap (bit_and ((value / 2) * 2 ^ 1 + value % 2)) (halves care) ∙ and_block 1 (value / 2) (care / 2) (value % 2) (care % 2) low low_care in
    let bits : bit_and (bit (lowest_bit value)) (bit (lowest_bit care)) ≡ bit_and (value % 2) (care % 2) =
    ap (λ (x : ℕ). bit_and x (bit (lowest_bit care))) (bit_is value) ∙ ap (bit_and (value % 2)) (bit_is care) in
    let few = bit_small (lowest_bit care) (lowest_bit value) in
    let inner : bit_and (value / 2) (care / 2) ≡ value / 2 = omega (arith, split, bits, few, within) in
    let rest : bit_and (value % 2) (care % 2) ≡ value % 2 = omega (arith, split, bits, few, within) in
    let later = value_back n (care / 2) (value / 2) half inner in
    let last = value_bit (lowest_bit care) (lowest_bit value) ∙ bits ∙ rest in
    omega (arith, later, last)
