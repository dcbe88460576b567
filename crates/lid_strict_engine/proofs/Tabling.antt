-- Truth tables are their bits packed into one number.
use Rattle.std.proofs.Common.{◌≡◌, ℕ, zero, suc, ◌+◌, ◌-◌, ◌*◌, ◌/◌, ◌%◌, ◌^◌, ◌<◌, ◌≤◌, ◌==◌, Bool, true, false, if◌then◌else◌, List, [], ◌∷◌, ◌++◌, length, get_or, map, take, drop, refl, sym, ◌∙◌, ap, subst, arith}
use Rattle.std.proofs.Math.Nat.{pow-le-pow_right, pow-succ', two-pow-succ, mul_assoc, zero-div, div-one}
use Rattle.std.proofs.Math.Pow.{pow_mono}
use Rattle.std.proofs.lemmas.Nat.{shr-shr, mod-pow-add}
use Rattle.std.proofs.lemmas.Bool.{eqb-true, eq-eqb}
use Rattle.std.proofs.lemmas.List.{length-map, length-drop}
use Rattle.lid_cover.specs.declared.Cover.{Cover}
use Rattle.lid_cover.specs.Cover.{cover_value, lowest_bit}
use Rattle.lid_cover.specs.Masks.{packed}
use Rattle.lid_base.specs.Each.{from_each}
use Rattle.lid_strict_engine.specs.Rows.{bit_at}
use Rattle.lid_strict_engine.specs.Truth.{is_set, unpacked, value_at, IsTruthTable, HasValues}
use Rattle.lid_base.proofs.Each.{each_length, each_at, each_append}

abbrev one : Bool → ℕ
one bit = if bit then 1 else 0

half : (bit : Bool) (n : ℕ) → (one bit + 2 * n) / 2 ≡ n
half true n = omega arith
half false n = omega arith

lowest : (bit : Bool) (n : ℕ) → lowest_bit (one bit + 2 * n) ≡ bit
lowest true n = eq-eqb ((1 + 2 * n) % 2) 1 (omega arith)
lowest false n = by ((0 + 2 * n) % 2 == 1) refl
  where
    by : (b : Bool) → ((0 + 2 * n) % 2 == 1) ≡ b → b ≡ false
    by true e = absurd (let odd : (0 + 2 * n) % 2 ≡ 1 = eqb-true ((0 + 2 * n) % 2) 1 e in omega arith)
    by false e = refl

value_of_lowest : (i : ℕ) → one (lowest_bit i) ≡ i % 2
value_of_lowest i = by (i % 2 == 1) refl
  where
    by : (b : Bool) → (i % 2 == 1) ≡ b → one b ≡ i % 2
    by true e = let odd : i % 2 ≡ 1 = eqb-true (i % 2) 1 e in omega arith
    by false e = even (i % 2) refl e
      where
        even : (m : ℕ) → i % 2 ≡ m → (m == 1) ≡ false → 0 ≡ m
        even zero same e = refl
        even (suc zero) same e = absurd (let f : true ≡ false = e in cc)
        even (suc (suc m)) same e = absurd (omega arith)

pub packed_bound : (bits : List Bool) → packed bits < 2 ^ length bits
packed_bound [] = omega arith
packed_bound (bit ∷ bits) =
    let h = packed_bound bits in
    let double : 2 ^ suc (length bits) ≡ 2 * 2 ^ length bits = pow-succ' 2 (length bits) in
    by bit h double
  where
    by : (b : Bool) → packed bits < 2 ^ length bits → 2 ^ suc (length bits) ≡ 2 * 2 ^ length bits → one b + 2 * packed bits < 2 ^ suc (length bits)
    by true h e = omega arith
    by false h e = omega arith

-- so many bits, or fewer
pub packed_below : (bits : List Bool) (n : ℕ) → length bits ≤ n → packed bits < 2 ^ n
packed_below bits n few =
    let h = packed_bound bits in
    let two : 0 < 2 = omega arith in
    let le : 2 ^ length bits ≤ 2 ^ n = pow-le-pow_right two few in
    omega arith

-- the bits of the nets from a place on, where there is one before it
pub later_below : (bits : List Bool) (nets : List ℕ) (left n : ℕ) → length nets ≤ suc n → 0 < left → packed (map (bit_at bits) (drop left nets)) < 2 ^ n
later_below bits nets left n few some =
    let long = length-map (drop left nets) (bit_at bits) ∙ length-drop left nets in
    packed_below (map (bit_at bits) (drop left nets)) n (omega arith)

-- each bit of packed bits
none_set : (i : ℕ) → is_set 0 i ≡ false
none_set i = ap lowest_bit (zero-div (2 ^ i))

pub packed_bit : (bits : List Bool) (i : ℕ) → is_set (packed bits) i ≡ get_or bits i false
packed_bit [] i = none_set i
packed_bit (bit ∷ bits) zero = ap lowest_bit (div-one (packed (bit ∷ bits))) ∙ lowest bit (packed bits)
packed_bit (bit ∷ bits) (suc i) =
    let later : suc i ≡ 1 + i = omega arith in
    let parts : packed (bit ∷ bits) / 2 ^ 1 / 2 ^ i ≡ packed (bit ∷ bits) / 2 ^ (1 + i) = shr-shr (packed (bit ∷ bits)) 1 i in
    ap (λ (n : ℕ). is_set (packed (bit ∷ bits)) n) later
    ∙ ap lowest_bit (sym parts)
    ∙ ap (λ (n : ℕ). is_set n i) (half bit (packed bits))
    ∙ packed_bit bits i

-- the lowest bits of a number, packed
pub length_unpacked : (n i : ℕ) → length (unpacked n i) ≡ n
length_unpacked zero i = refl
length_unpacked (suc n) i = ap suc (length_unpacked n (i / 2))

pub packed_unpacked : (n i : ℕ) → packed (unpacked n i) ≡ i % 2 ^ n
packed_unpacked zero i = omega arith
packed_unpacked (suc n) i =
    let later : suc n ≡ n + 1 = omega arith in
    let rest : packed (unpacked n (i / 2)) ≡ i / 2 % 2 ^ n = packed_unpacked n (i / 2) in
    let first : one (lowest_bit i) ≡ i % 2 = value_of_lowest i in
    let parts : i % 2 ^ (n + 1) ≡ (i / 2 ^ 1 % 2 ^ n) * 2 ^ 1 + i % 2 ^ 1 = mod-pow-add i n 1 in
    let parts' : i % 2 ^ (n + 1) ≡ (i / 2 % 2 ^ n) * 2 + i % 2 = parts in
    let sum : one (lowest_bit i) + 2 * packed (unpacked n (i / 2)) ≡ (i / 2 % 2 ^ n) * 2 + i % 2 = omega arith in
    sum ∙ sym parts' ∙ ap (λ (m : ℕ). i % 2 ^ m) (sym later)

pub unpacked_packed : (n : ℕ) (bits : List Bool) → n ≤ length bits → unpacked n (packed bits) ≡ take n bits
unpacked_packed zero bits few = refl
unpacked_packed (suc n) [] few = absurd (omega arith)
unpacked_packed (suc n) (bit ∷ bits) few =
    let head = lowest bit (packed bits) in
    let tail : unpacked n ((one bit + 2 * packed bits) / 2) ≡ take n bits = ap (unpacked n) (half bit (packed bits)) ∙ unpacked_packed n bits (omega arith) in
    ap (λ (b : Bool). b ∷ unpacked n ((one bit + 2 * packed bits) / 2)) head ∙ ap (λ (bs : List Bool). bit ∷ bs) tail

-- numbers that have the same lowest bits
unpacked_again : (n e i : ℕ) → n ≤ e → unpacked n (2 ^ e + i) ≡ unpacked n i
unpacked_again zero e i few = refl
unpacked_again (suc n) zero i few = absurd (omega arith)
unpacked_again (suc n) (suc e) i few =
    let double : 2 ^ suc e ≡ 2 * 2 ^ e = pow-succ' 2 e in
    let first : (2 ^ suc e + i) % 2 ≡ i % 2 = omega arith in
    let rest : (2 ^ suc e + i) / 2 ≡ 2 ^ e + i / 2 = omega arith in
    ap (λ (m : ℕ). (m == 1) ∷ unpacked n ((2 ^ suc e + i) / 2)) first
    ∙ ap (λ (m : ℕ). lowest_bit i ∷ unpacked n m) rest
    ∙ ap (λ (bits : List Bool). lowest_bit i ∷ bits) (unpacked_again n e (i / 2) (omega arith))

-- the values from two places on, where they are the same
each_again : (v : ℕ → Bool) (k j n : ℕ) → ((i : ℕ) → v (k + i) ≡ v (j + i)) → from_each v k n ≡ from_each v j n
each_again v k j zero same = refl
each_again v k j (suc n) same =
    let head : v k ≡ v j = (let e : k ≡ k + 0 = omega arith in ap v e) ∙ same 0 ∙ (let e : j + 0 ≡ j = omega arith in ap v e) in
    let next = λ (i : ℕ). (let e : (k + 1) + i ≡ k + suc i = omega arith in ap v e) ∙ same (suc i) ∙ (let e : j + suc i ≡ (j + 1) + i = omega arith in ap v e) in
    ap (λ (b : Bool). b ∷ from_each v (k + 1) n) head ∙ ap (λ (bs : List Bool). v j ∷ bs) (each_again v (k + 1) (j + 1) n next)

pub packed_append : (xs ys : List Bool) → packed (xs ++ ys) ≡ packed xs + 2 ^ length xs * packed ys
packed_append [] ys = omega arith
packed_append (x ∷ xs) ys =
    let later = packed_append xs ys in
    let double : 2 ^ suc (length xs) ≡ 2 * 2 ^ length xs = pow-succ' 2 (length xs) in
    let above : 2 ^ suc (length xs) * packed ys ≡ 2 * (2 ^ length xs * packed ys) = ap (λ (n : ℕ). n * packed ys) double ∙ mul_assoc 2 (2 ^ length xs) (packed ys) in
    by (2 ^ length xs * packed ys) (2 ^ suc (length xs) * packed ys) (packed (xs ++ ys)) later above
  where
    by : (p q r : ℕ) → r ≡ packed xs + p → q ≡ 2 * p → one x + 2 * r ≡ (one x + 2 * packed xs) + q
    by p q r later above = omega arith

-- the values of a cover below 2^e, and again, are those below 2^(e + 1)
pub values_again : (cover : Cover) (e table more : ℕ) → cover.inputs ≤ e → HasValues cover e table → more ≡ table + 2 ^ (2 ^ e) * table → HasValues cover (e + 1) more
values_again cover e table more few has is =
    let v = value_at cover in
    let n = 2 ^ e in
    let bits = from_each v 0 n in
    let place : 0 + n ≡ n = omega arith in
    let periodic = λ (i : ℕ). ap (cover_value cover) (unpacked_again cover.inputs e i few) ∙ (let z : i ≡ 0 + i = omega arith in ap v z) in
    let same : from_each v (0 + n) n ≡ bits = ap (λ (k : ℕ). from_each v k n) place ∙ each_again v n 0 n periodic in
    let count : 2 ^ (e + 1) ≡ n + n = (let s : e + 1 ≡ suc e = omega arith in ap (λ (k : ℕ). 2 ^ k) s) ∙ two-pow-succ e in
    let long : length bits ≡ n = each_length v 0 n in
    is
    ∙ ap (λ (t : ℕ). t + 2 ^ n * t) has
    ∙ ap (λ (k : ℕ). packed bits + 2 ^ k * packed bits) (sym long)
    ∙ sym (packed_append bits bits)
    ∙ ap (λ (more : List Bool). packed (bits ++ more)) (sym same)
    ∙ ap packed (sym (each_append v 0 n n))
    ∙ ap (λ (k : ℕ). packed (from_each v 0 k)) (sym count)

pub values_below : (cover : Cover) (e table : ℕ) → HasValues cover e table → table < 2 ^ (2 ^ e)
values_below cover e table has =
    let long = each_length (value_at cover) 0 (2 ^ e) in
    subst (λ (n : ℕ). n < 2 ^ (2 ^ e)) (sym has) (packed_below (from_each (value_at cover) 0 (2 ^ e)) (2 ^ e) (omega arith))

-- all values
pub values_all : (cover : Cover) (table : ℕ) → HasValues cover 6 table → IsTruthTable table cover
values_all cover table has i h =
    let v = value_at cover in
    ap (λ (n : ℕ). is_set n i) has
    ∙ packed_bit (from_each v 0 64) i
    ∙ each_at v 0 64 i false h
    ∙ ap v (omega arith)

-- a table that has the values of a cover from some place on
abbrev pub HasFrom : Cover → ℕ → ℕ → Type 0
HasFrom cover table left = (left ≤ 2 ^ cover.inputs) × (table ≡ packed (from_each (value_at cover) left (2 ^ cover.inputs - left)))

pub has_none : (cover : Cover) (left : ℕ) → left ≡ 2 ^ cover.inputs → HasFrom cover 0 left
has_none cover left is =
    let none : 2 ^ cover.inputs - left ≡ 0 = omega arith in
    (omega arith, ap (λ (n : ℕ). packed (from_each (value_at cover) left n)) (sym none))

pub small_from : (cover : Cover) (table left : ℕ) → cover.inputs ≤ 6 → HasFrom cover table left → 0 < left → table < 9223372036854775808
small_from cover table left few has some =
    let long = each_length (value_at cover) left (2 ^ cover.inputs - left) in
    let within : left ≤ 2 ^ cover.inputs = has.0 in
    let most : 2 ^ cover.inputs ≤ 2 ^ 6 = pow_mono few in
    subst (λ (n : ℕ). n < 9223372036854775808) (sym has.1) (packed_below (from_each (value_at cover) left (2 ^ cover.inputs - left)) 63 (omega arith))

-- one more value
pub has_more : (cover : Cover) (table left value : ℕ) → HasFrom cover table left → 0 < left → value ≡ one (value_at cover (left - 1)) → HasFrom cover (table * 2 + value) (left - 1)
has_more cover table left value has some is = (
  (let within : left ≤ 2 ^ cover.inputs = has.0 in omega arith),
  (let within : left ≤ 2 ^ cover.inputs = has.0 in
      let v = value_at cover in
      let size = 2 ^ cover.inputs in
      let place : left ≡ (left - 1) + 1 = omega arith in
      let count : size - (left - 1) ≡ suc (size - left) = omega arith in
      let rest : packed (from_each v left (size - left)) ≡ packed (from_each v ((left - 1) + 1) (size - left)) = ap (λ (n : ℕ). packed (from_each v n (size - left))) place in
      let before : table ≡ packed (from_each v left (size - left)) = has.1 in
      let sum : table * 2 + value ≡ one (v (left - 1)) + 2 * packed (from_each v ((left - 1) + 1) (size - left)) = omega arith in
      sum ∙ ap (λ (n : ℕ). packed (from_each v (left - 1) n)) (sym count)),
)

pub has_all : (cover : Cover) (table left : ℕ) → HasFrom cover table left → left ≡ 0 → HasValues cover cover.inputs table
has_all cover table left has none =
    let all : 2 ^ cover.inputs - 0 ≡ 2 ^ cover.inputs = omega arith in
    has.1 ∙ ap (λ (n : ℕ). packed (from_each (value_at cover) n (2 ^ cover.inputs - n))) none ∙ ap (λ (n : ℕ). packed (from_each (value_at cover) 0 n)) all

pub shift_small : (e : ℕ) → e < 6 → 1 * 2 ^ e % 4294967296 < 64
shift_small zero few = omega arith
shift_small (suc zero) few = omega arith
shift_small (suc (suc zero)) few = omega arith
shift_small (suc (suc (suc zero))) few = omega arith
shift_small (suc (suc (suc (suc zero)))) few = omega arith
shift_small (suc (suc (suc (suc (suc zero))))) few = omega arith
shift_small (suc (suc (suc (suc (suc (suc e)))))) few = absurd (omega arith)

-- twice as many bits have room
pub room_again : (e bits : ℕ) → e < 6 → bits < 2 ^ (2 ^ e) → ((bits * 2 ^ ((1 * 2 ^ e) % 4294967296)) % 18446744073709551616 ≡ 2 ^ (2 ^ e) * bits) × (bits + 2 ^ (2 ^ e) * bits < 18446744073709551616)
room_again zero bits few small = (omega arith, omega arith)
room_again (suc zero) bits few small = (omega arith, omega arith)
room_again (suc (suc zero)) bits few small = (omega arith, omega arith)
room_again (suc (suc (suc zero))) bits few small = (omega arith, omega arith)
room_again (suc (suc (suc (suc zero)))) bits few small = (omega arith, omega arith)
room_again (suc (suc (suc (suc (suc zero))))) bits few small = (omega arith, omega arith)
room_again (suc (suc (suc (suc (suc (suc e)))))) bits few small = absurd (omega arith)

-- the number of the places that a small cover tells apart
pub size_is : (n : ℕ) → n ≤ 6 → (1 * 2 ^ n) % 18446744073709551616 ≡ 2 ^ n
size_is zero h = refl
size_is (suc zero) h = refl
size_is (suc (suc zero)) h = refl
size_is (suc (suc (suc zero))) h = refl
size_is (suc (suc (suc (suc zero)))) h = refl
size_is (suc (suc (suc (suc (suc zero))))) h = refl
size_is (suc (suc (suc (suc (suc (suc zero)))))) h = refl
size_is (suc (suc (suc (suc (suc (suc (suc n))))))) h = absurd (omega arith)
