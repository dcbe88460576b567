-- The laws of words: what a place shows, when a word is zero, and which bits are set.
use Rattle.std.proofs.Common.{◌≡◌, ℕ, zero, suc, ◌+◌, ◌-◌, ◌*◌, ◌/◌, ◌%◌, ◌<◌, ◌≤◌, ◌↔◌, List, length, get_or, refl, sym, ◌∙◌, ap, arith, eq-eqb, ne_eqb, lt_of_not-le}
use Rattle.std.proofs.Math.Nat.{mul-le-mul_left, div-add-mod, mul-add-mod_self_left, mod-eq_of_lt}
use Rattle.std.specs.List.{All}
use Rattle.std.proofs.lemmas.List.{get_or_past}
use Rattle.std.proofs.lemmas.List.Elements.{All-get_or}
use Rattle.lid_station.specs.Words.{half, half_of, word}
use mathlib.Core.Logic.{dite}
use native.Mathlib.Decide.{dec_le, ℕ_discrete}

further : (x y n : ℕ) → x < y → n * x + n ≤ n * y
further x y n h =
    let more : n * suc x ≤ n * y = mul-le-mul_left n h in
    let wide : n * suc x ≡ n * x + n = omega arith in
    omega arith

-- two numbers less than a capacity apart that stand in one place are one number
pub one_turn : (i j cap : ℕ) → i ≤ j → j < i + cap → i % cap ≡ j % cap → i ≡ j
one_turn i j cap le near same =
    let x = div-add-mod i cap in
    let y = div-add-mod j cap in
    dite (dec_le (j / cap) (i / cap))
    (λ low. let most : cap * (j / cap) ≤ cap * (i / cap) = mul-le-mul_left cap low in omega arith)
    (λ high. let least = further (i / cap) (j / cap) cap (lt_of_not-le high) in absurd (omega arith))

-- each place is that of one of as many numbers as the capacity
pub reach : (first cap place : ℕ) → place < cap → (i : ℕ) × (first ≤ i) × (i < first + cap) × (i % cap ≡ place)
reach first cap place within =
    let x = div-add-mod first cap in
    let low : first % cap < cap = omega arith in
    dite (dec_le (first % cap) place)
    (λ here. (cap * (first / cap) + place, omega arith, omega arith, mul-add-mod_self_left cap (first / cap) place ∙ mod-eq_of_lt within))
    (λ later.
    let up : cap * suc (first / cap) ≡ cap * (first / cap) + cap = omega arith in
    let over : place < first % cap = lt_of_not-le later in
    (cap * suc (first / cap) + place, omega arith, omega arith, mul-add-mod_self_left cap (suc (first / cap)) place ∙ mod-eq_of_lt within))

half_same : (cap : ℕ) (tokens : List ℕ) (first count place : ℕ) → (first + count) % cap ≡ place → half cap tokens first (suc count) place ≡ 2147483648 + get_or tokens (first + count) 0
unfolding half
half_same cap tokens first count place here = rw (eq-eqb ((first + count) % cap) place here) refl

half_other : (cap : ℕ) (tokens : List ℕ) (first count place : ℕ) → ((first + count) % cap ≡ place → ⊥) → half cap tokens first (suc count) place ≡ half cap tokens first count place
unfolding half
half_other cap tokens first count place there = rw (ne_eqb ((first + count) % cap) place there) refl

half_none : (cap : ℕ) (tokens : List ℕ) (first place : ℕ) → half cap tokens first 0 place ≡ 0
unfolding half
half_none cap tokens first place = refl

-- a place shows the token that stands there, with the full bit
pub half_token : (cap : ℕ) (tokens : List ℕ) (first count place i : ℕ) → count ≤ cap → first ≤ i → i < first + count → i % cap ≡ place → half cap tokens first count place ≡ 2147483648 + get_or tokens i 0
half_token cap tokens first zero place i few from to here = absurd (omega arith)
half_token cap tokens first (suc count) place i few from to here =
    dite (ℕ_discrete i (first + count))
    (λ last. half_same cap tokens first count place (ap (λ (k : ℕ). k % cap) (sym last) ∙ here) ∙ ap (λ (k : ℕ). 2147483648 + get_or tokens k 0) (sym last))
    (λ earlier.
    half_other cap tokens first count place (λ again. earlier (one_turn i (first + count) cap (omega arith) (omega arith) (here ∙ sym again)))
    ∙ half_token cap tokens first count place i (omega arith) from (omega arith) here)

-- a place where no token stands shows 0
pub half_empty : (cap : ℕ) (tokens : List ℕ) (first count place : ℕ) → ((i : ℕ) → first ≤ i → i < first + count → i % cap ≡ place → ⊥) → half cap tokens first count place ≡ 0
half_empty cap tokens first zero place none = half_none cap tokens first place
half_empty cap tokens first (suc count) place none =
    half_other cap tokens first count place (none (first + count) (omega arith) (omega arith))
    ∙ half_empty cap tokens first count place (λ i from to. none i from (omega arith))

-- a free place shows 0
pub half_free : (cap : ℕ) (tokens : List ℕ) (first count i : ℕ) → first + count ≤ i → i < first + cap → half cap tokens first count (i % cap) ≡ 0
half_free cap tokens first count i from to =
    half_empty cap tokens first count (i % cap) (λ j low high same.
    let equal : j ≡ i = one_turn j i cap (omega arith) (omega arith) same in omega arith)

-- what is no place shows 0
pub half_past : (cap : ℕ) (tokens : List ℕ) (first count place : ℕ) → 0 < cap → cap ≤ place → half cap tokens first count place ≡ 0
half_past cap tokens first count place some past =
    half_empty cap tokens first count place (λ i low high same. let below : i % cap < cap = omega arith in omega arith)

-- each place of a station that holds its capacity has its full bit
pub half_full : (cap : ℕ) (tokens : List ℕ) (first place : ℕ) → place < cap → 2147483648 ≤ half cap tokens first cap place
half_full cap tokens first place within =
    let at = reach first cap place within in
    let is = half_token cap tokens first cap place at.0 (omega arith) at.1 at.2 at.3 in omega arith

-- a word is zero exactly where both its places show 0
pub word_zero : (cap : ℕ) (filled drained : List ℕ) (number : ℕ) → (word cap filled drained number ≡ 0) ↔ ((half_of cap filled drained (2 * number) ≡ 0) × (half_of cap filled drained (2 * number + 1) ≡ 0))
unfolding word
word_zero cap filled drained number = ((λ zero_word. (omega arith, omega arith)), (λ both. let even = both.0 in let odd = both.1 in omega arith))

-- a word of a station that holds nothing is zero
pub word_nothing : (cap : ℕ) (filled drained : List ℕ) (number : ℕ) → length filled ≤ length drained → word cap filled drained number ≡ 0
word_nothing cap filled drained number nothing =
    let none : length filled - length drained ≡ 0 = omega arith in
    let empty : (place : ℕ) → half_of cap filled drained place ≡ 0 = λ place. ap (λ (n : ℕ). half cap filled (length drained) n place) none ∙ half_none cap filled (length drained) place in
    (word_zero cap filled drained number).1 (empty (2 * number), empty (2 * number + 1))

-- bit 31 of two halves of which the lower has it
pub low_bit : (low high : ℕ) → 2147483648 ≤ low → low < 4294967296 → ((low + 4294967296 * high) / 2147483648) % 2 ≡ 1
low_bit low high least most =
    let rest : (low + 4294967296 * high) / 2147483648 ≡ 1 + 2 * high = omega arith in
    omega arith

-- bit 63 of two halves of which the higher has it
pub high_bit : (low high : ℕ) → low < 4294967296 → 2147483648 ≤ high → high < 4294967296 → ((low + 4294967296 * high) / 9223372036854775808) % 2 ≡ 1
high_bit low high low_most least most =
    let one : (low + 4294967296 * high) / 9223372036854775808 ≡ 1 = omega arith in
    omega arith

-- a token of a list of tokens, and 0 past its end, has 31 bits
token_small : (tokens : List ℕ) (i : ℕ) → All (λ token. token < 2147483648) tokens → get_or tokens i 0 < 2147483648
token_small tokens i small =
    dite (dec_le (length tokens) i)
    (λ past. let none : get_or tokens i 0 ≡ 0 = get_or_past tokens i 0 past in omega arith)
    (λ inside. All-get_or (λ token. token < 2147483648) tokens i 0 (lt_of_not-le inside) small)

-- what a place shows of tokens of 31 bits has 32 bits
pub half_small : (cap : ℕ) (tokens : List ℕ) (first count place : ℕ) → All (λ token. token < 2147483648) tokens → half cap tokens first count place < 4294967296
half_small cap tokens first zero place small = let none = half_none cap tokens first place in omega arith
half_small cap tokens first (suc count) place small =
    dite (ℕ_discrete ((first + count) % cap) place)
    (λ here. let shows = half_same cap tokens first count place here in let token = token_small tokens (first + count) small in omega arith)
    (λ there. let shows = half_other cap tokens first count place there in let before = half_small cap tokens first count place small in omega arith)

-- the halves of a station that holds its capacity
half_of_full : (cap : ℕ) (filled drained : List ℕ) (place : ℕ) → length filled ≡ length drained + cap → place < cap → 2147483648 ≤ half_of cap filled drained place
half_of_full cap filled drained place full within =
    let count : length filled - length drained ≡ cap = omega arith in
    let same : half_of cap filled drained place ≡ half cap filled (length drained) cap place = ap (λ (n : ℕ). half cap filled (length drained) n place) count in
    let some = half_full cap filled (length drained) place within in
    omega arith

-- the full bit of the even place of a word of a station that holds its capacity
pub word_full_even : (cap : ℕ) (filled drained : List ℕ) (number : ℕ) → All (λ token. token < 2147483648) filled → length filled ≡ length drained + cap → 2 * number < cap
    → (word cap filled drained number / 2147483648) % 2 ≡ 1
unfolding word
word_full_even cap filled drained number small full within =
    let even = half_of_full cap filled drained (2 * number) full within in
    let fits : half_of cap filled drained (2 * number) < 4294967296 = half_small cap filled (length drained) (length filled - length drained) (2 * number) small in
    low_bit (half_of cap filled drained (2 * number)) (half_of cap filled drained (2 * number + 1)) even fits

-- the full bit of the odd place of a word of a station that holds its capacity
pub word_full_odd : (cap : ℕ) (filled drained : List ℕ) (number : ℕ) → All (λ token. token < 2147483648) filled → length filled ≡ length drained + cap → 2 * number + 1 < cap
    → (word cap filled drained number / 9223372036854775808) % 2 ≡ 1
unfolding word
word_full_odd cap filled drained number small full within =
    let odd = half_of_full cap filled drained (2 * number + 1) full within in
    let odd_fits : half_of cap filled drained (2 * number + 1) < 4294967296 = half_small cap filled (length drained) (length filled - length drained) (2 * number + 1) small in
    let even_fits : half_of cap filled drained (2 * number) < 4294967296 = half_small cap filled (length drained) (length filled - length drained) (2 * number) small in
    high_bit (half_of cap filled drained (2 * number)) (half_of cap filled drained (2 * number + 1)) even_fits odd odd_fits
