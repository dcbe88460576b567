-- Bits in words of 64: the bits of a value, and those of a row in its words.
use Rattle.std.proofs.Common.{◌≡◌, ℕ, zero, suc, ◌+◌, ◌*◌, ◌^◌, ◌/◌, ◌%◌, ◌<◌, ◌≤◌, ◌==◌, Bool, true, false, if◌then◌else◌, List, [], ◌∷◌, ◌++◌, length, take, drop, get_or, refl, ◌∙◌, ap, arith}
use Rattle.std.specs.Int.{bit_at}
use Rattle.std.proofs.lemmas.Nat.Bits.{bit_at-zero, bit_at-suc, bit_at_lowest}
use Rattle.std.proofs.Math.Nat.{pow-suc, zero-add}
use Rattle.std.proofs.Math.Pow.{pow_mono}
use Rattle.std.proofs.lemmas.List.{length-drop, get_or-take, get_or-drop, get_or-append-add}
use Rattle.lid_base.specs.Each.{from_each}
use Rattle.lid_base.proofs.Each.{each_at}
use Rattle.lid_texts_packed.specs.Bits.{value_of_bits, words_for, word_in, words_of, has_bit}

abbrev number_of : Bool → ℕ
number_of bit = if bit then 1 else 0

number_below : (bit : Bool) → number_of bit < 2
number_below true = omega arith
number_below false = omega arith

is_number : (bit : Bool) → (number_of bit == 1) ≡ bit
is_number true = refl
is_number false = refl

-- so many bits have a value below that power of two
pub value_below : (bits : List Bool) → value_of_bits bits < 2 ^ length bits
value_below [] = omega arith
value_below (bit ∷ bits) =
    let one = number_below bit in
    let rest = value_below bits in
    let double = pow-suc 2 (length bits) in
    omega (arith, one, rest, double)

-- those after the first have one below the half
pub rest_below : (bits : List Bool) (i : ℕ) → length bits ≤ 64 → 0 < i → value_of_bits (drop i bits) < 2 ^ 63
rest_below bits i long past =
    let below = value_below (drop i bits) in
    let fewer = length-drop i bits in
    let most : 2 ^ length (drop i bits) ≤ 2 ^ 63 = pow_mono {i = length (drop i bits)} {j = 63} (omega (arith, fewer, long, past)) in
    omega (arith, below, most)

-- the bits of the value are the bits
pub value_bit : (bits : List Bool) (i : ℕ) → (bit_at (value_of_bits bits) i == 1) ≡ get_or bits i false
value_bit [] i = ap (λ (n : ℕ). n == 1) (bit_at-zero i)
value_bit (bit ∷ bits) zero =
    ap (λ (n : ℕ). n == 1) (bit_at_lowest (value_of_bits (bit ∷ bits)) ∙ odd (number_of bit) (value_of_bits bits) (number_below bit)) ∙ is_number bit
  where
    odd : (b v : ℕ) → b < 2 → (b + 2 * v) % 2 ≡ b
    odd b v h = omega (arith, h)
value_bit (bit ∷ bits) (suc i) =
    ap (λ (n : ℕ). n == 1) (bit_at-suc (value_of_bits (bit ∷ bits)) i ∙ ap (λ (v : ℕ). bit_at v i) (half (number_of bit) (value_of_bits bits) (number_below bit)))
    ∙ value_bit bits i
  where
    half : (b v : ℕ) → b < 2 → (b + 2 * v) / 2 ≡ v
    half b v h = omega (arith, h)

-- an item of a list of what a function gives from 0 on
pub each_there : {A : Type 0} (f : ℕ → A) (n i : ℕ) (d : A) → i < n → get_or (from_each f 0 n) i d ≡ f i
each_there f n i d less = each_at f 0 n i d less ∙ ap f (zero-add i)

-- a bit of a row whose words were appended
pub appended_bit : (words : List ℕ) (row : List Bool) (i : ℕ) → i < length row → has_bit (words ++ words_of row) (length words) i ≡ get_or row i false
appended_bit words row i less =
    ap (λ (w : ℕ). bit_at w (i % 64) == 1) (get_or-append-add words (words_of row) (i / 64) 0 ∙ each_there (word_in row) (words_for (length row)) (i / 64) 0 (omega (arith, less)))
    ∙ value_bit (take 64 (drop (64 * (i / 64)) row)) (i % 64)
    ∙ get_or-take 64 (drop (64 * (i / 64)) row) (i % 64) false (omega arith)
    ∙ get_or-drop (64 * (i / 64)) row (i % 64) false
    ∙ (let whole : 64 * (i / 64) + i % 64 ≡ i = omega arith in ap (λ (n : ℕ). get_or row n false) whole)
