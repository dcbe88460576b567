-- Words bit by bit, and what a row asks of the first six inputs.
use Rattle.std.proofs.Common.{◌≡◌, ℕ, zero, suc, ◌+◌, ◌-◌, ◌*◌, ◌/◌, ◌%◌, ◌^◌, ◌<◌, ◌≤◌, ◌==◌, min, max, Bool, true, false, not, ◌&&◌, ◌||◌, bit_and, bit_or, List, [], ◌∷◌, w64, refl, sym, ◌∙◌, ap, subst, arith}
use Rattle.std.specs.Int.{bit_at}
use Rattle.std.proofs.Math.Nat.{div-one}
use Rattle.std.proofs.lemmas.Bool.{eq-eqb, ne_eqb, and_right}
use Rattle.std.proofs.lemmas.Nat.{shr-shr}
use Rattle.std.proofs.lemmas.Nat.Bits.{bit_at_and, bit_at_or, bit_at_ones, bit_at_not, bit_at-lt, same_from_bits_below}
use Rattle.lid_base.specs.Each.{from_each}
use Rattle.lid_base.proofs.Each.{each_at, each_length}
use Rattle.lid_cover.specs.declared.Cube.{Cube}
use Rattle.lid_cover.specs.Cover.{same_bit, lowest_bit, fits, agrees}
use Rattle.lid_cover.specs.Masks.{packed}
use Rattle.lid_strict_engine.specs.Truth.{is_set, unpacked}
use Rattle.lid_strict_tables.specs.Wide.{low_mask}
use Rattle.lid_strict_engine.proofs.Tabling.{packed_bit, packed_below}

both : (x y : ℕ) → x < 2 → y < 2 → (min x y == 1) ≡ ((x == 1) && (y == 1))
both zero zero h k = refl
both zero (suc zero) h k = refl
both (suc zero) zero h k = refl
both (suc zero) (suc zero) h k = refl
both (suc (suc x)) y h k = absurd (omega arith)
both x (suc (suc y)) h k = absurd (omega arith)

either : (x y : ℕ) → x < 2 → y < 2 → (max x y == 1) ≡ ((x == 1) || (y == 1))
either zero zero h k = refl
either zero (suc zero) h k = refl
either (suc zero) zero h k = refl
either (suc zero) (suc zero) h k = refl
either (suc (suc x)) y h k = absurd (omega arith)
either x (suc (suc y)) h k = absurd (omega arith)

pub set_and : (a b i : ℕ) → is_set (bit_and a b) i ≡ (is_set a i && is_set b i)
set_and a b i = ap (λ (n : ℕ). n == 1) (bit_at_and a b i) ∙ both (bit_at a i) (bit_at b i) (bit_at-lt a i) (bit_at-lt b i)

pub set_or : (a b i : ℕ) → is_set (bit_or a b) i ≡ (is_set a i || is_set b i)
set_or a b i = ap (λ (n : ℕ). n == 1) (bit_at_or a b i) ∙ either (bit_at a i) (bit_at b i) (bit_at-lt a i) (bit_at-lt b i)

pub set_ones : (i : ℕ) → i < 64 → is_set 18446744073709551615 i ≡ true
set_ones i h = ap (λ (n : ℕ). n == 1) (bit_at_ones 64 i h)

flipped : (x : ℕ) → x < 2 → (1 - x == 1) ≡ not (x == 1)
flipped zero h = refl
flipped (suc zero) h = refl
flipped (suc (suc x)) h = absurd (omega arith)

pub set_not : (n i : ℕ) → n < 18446744073709551616 → i < 64 → is_set (18446744073709551615 - n) i ≡ not (is_set n i)
set_not n i small h = ap (λ (m : ℕ). m == 1) (bit_at_not w64 n i small h) ∙ flipped (bit_at n i) (bit_at-lt n i)

pub set_each : (f : ℕ → Bool) (k i : ℕ) → i < 64 → is_set (packed (from_each f k 64)) i ≡ f (k + i)
set_each f k i h = packed_bit (from_each f k 64) i ∙ each_at f k 64 i false h

pub set_first : (f : ℕ → Bool) (i : ℕ) → i < 64 → is_set (packed (from_each f 0 64)) i ≡ f i
set_first f i h = set_each f 0 i h ∙ (let e : 0 + i ≡ i = omega arith in ap f e)

pub each_small : (f : ℕ → Bool) (k : ℕ) → packed (from_each f k 64) < 18446744073709551616
each_small f k = (let long = each_length f k 64 in packed_below (from_each f k 64) 64 (omega arith))

-- where one input is 1
abbrev lane_of : ℕ → ℕ
lane_of input = packed (from_each (λ i. lowest_bit (i / 2 ^ input)) 0 64)

pub set_lane : (word j input i : ℕ) → word ≡ lane_of j → input ≡ j → i < 64 → is_set word i ≡ lowest_bit (i / 2 ^ input)
set_lane word j input i is same h =
    ap (λ (n : ℕ). is_set n i) is ∙ set_first (λ i. lowest_bit (i / 2 ^ j)) i h ∙ ap (λ (n : ℕ). lowest_bit (i / 2 ^ n)) (sym same)

-- one more input
and_true : (b : Bool) → (b && true) ≡ b
and_true true = refl
and_true false = refl

pub and_assoc : (a b c : Bool) → (a && (b && c)) ≡ ((a && b) && c)
and_assoc true b c = refl
and_assoc false b c = refl

abbrev pub allows : ℕ → ℕ → ℕ → Bool
allows care value i = not (lowest_bit care) || same_bit (lowest_bit value) (lowest_bit i)

pub halved : (n j : ℕ) → n / 2 / 2 ^ j ≡ n / 2 ^ suc j
halved n j = (let e : 1 + j ≡ suc j = omega arith in let parts : n / 2 ^ 1 / 2 ^ j ≡ n / 2 ^ (1 + j) = shr-shr n 1 j in parts ∙ ap (λ (k : ℕ). n / 2 ^ k) e)

pub allows_all : (care value i : ℕ) → (care % 2 ≡ 1 → ⊥) → allows care value i ≡ true
allows_all care value i free = ap (λ (b : Bool). not b || same_bit (lowest_bit value) (lowest_bit i)) (ne_eqb (care % 2) 1 free)

pub allows_zero : (care value i : ℕ) → care % 2 ≡ 1 → (value % 2 ≡ 1 → ⊥) → allows care value i ≡ not (lowest_bit i)
allows_zero care value i cares none =
    ap (λ (b : Bool). not b || same_bit (lowest_bit value) (lowest_bit i)) (eq-eqb (care % 2) 1 cares)
    ∙ ap (λ (b : Bool). same_bit b (lowest_bit i)) (ne_eqb (value % 2) 1 none)

pub fits_more : (care value i j : ℕ) → fits care value (unpacked (suc j) i) ≡ (fits care value (unpacked j i) && allows (care / 2 ^ j) (value / 2 ^ j) (i / 2 ^ j))
fits_more care value i zero =
    let c : care ≡ care / 2 ^ 0 = sym (div-one care) in
    let v : value ≡ value / 2 ^ 0 = sym (div-one value) in
    let n : i ≡ i / 2 ^ 0 = sym (div-one i) in
    and_true (allows care value i)
    ∙ ap (λ (m : ℕ). allows m value i) c
    ∙ ap (λ (m : ℕ). allows (care / 2 ^ 0) m i) v
    ∙ ap (λ (m : ℕ). allows (care / 2 ^ 0) (value / 2 ^ 0) m) n
fits_more care value i (suc j) =
    let first = allows care value i in
    let rest = fits (care / 2) (value / 2) (unpacked j (i / 2)) in
    ap (λ (b : Bool). first && b) (fits_more (care / 2) (value / 2) (i / 2) j)
    ∙ and_assoc first rest (allows (care / 2 / 2 ^ j) (value / 2 / 2 ^ j) (i / 2 / 2 ^ j))
    ∙ ap (λ (m : ℕ). (first && rest) && allows m (value / 2 / 2 ^ j) (i / 2 / 2 ^ j)) (halved care j)
    ∙ ap (λ (m : ℕ). (first && rest) && allows (care / 2 ^ suc j) m (i / 2 / 2 ^ j)) (halved value j)
    ∙ ap (λ (m : ℕ). (first && rest) && allows (care / 2 ^ suc j) (value / 2 ^ suc j) m) (halved i j)

-- words that have the same bits
same_bits : (x y : ℕ) → x < 2 → y < 2 → (x == 1) ≡ (y == 1) → x ≡ y
same_bits zero zero h k e = refl
same_bits zero (suc zero) h k e = absurd (let f : false ≡ true = e in cc)
same_bits (suc zero) zero h k e = absurd (let f : true ≡ false = e in cc)
same_bits (suc zero) (suc zero) h k e = refl
same_bits (suc (suc x)) y h k e = absurd (omega arith)
same_bits x (suc (suc y)) h k e = absurd (omega arith)

pub same_words : (a b : ℕ) → a < 18446744073709551616 → b < 18446744073709551616 → ((i : ℕ) → i < 64 → is_set a i ≡ is_set b i) → a ≡ b
same_words a b small less same = same_from_bits_below 64 a b small less (λ i h. same_bits (bit_at a i) (bit_at b i) (bit_at-lt a i) (bit_at-lt b i) (same i h))

pub mask_is : (mask : ℕ) (cube : Cube) → mask < 18446744073709551616 → ((i : ℕ) → i < 64 → is_set mask i ≡ agrees (unpacked 6 i) cube) → mask ≡ low_mask cube
unfolding low_mask
mask_is mask cube small bits =
    let f : ℕ → Bool = λ i. agrees (unpacked 6 i) cube in
    same_words mask (low_mask cube) small (each_small f 0) (λ i h. bits i h ∙ sym (set_first f i h))

-- where a row agrees, by what it asks of the other inputs
pub set_found : (mask test i : ℕ) (cube : Cube) → mask ≡ low_mask cube → test ≡ 0 → i < 64 → is_set mask i ≡ (agrees (unpacked 6 i) cube && (test == 0))
unfolding low_mask
set_found mask test i cube is met h =
    let f : ℕ → Bool = λ i. agrees (unpacked 6 i) cube in
    ap (λ (n : ℕ). is_set n i) is ∙ set_first f i h ∙ sym (and_true (f i)) ∙ ap (λ (b : Bool). f i && b) (sym (eq-eqb test 0 met))

pub set_missed : (test i : ℕ) (cube : Cube) → (test ≡ 0 → ⊥) → is_set 0 i ≡ (agrees (unpacked 6 i) cube && (test == 0))
set_missed test i cube missed = packed_bit [] i ∙ sym (and_right (agrees (unpacked 6 i) cube) (test == 0) (ne_eqb test 0 missed))
