-- What is read from a number in decimal digits, and what the number of a word is below.
use Rattle.std.proofs.Common.{◌≡◌, ℕ, ◌+◌, ◌-◌, ◌*◌, ◌/◌, ◌%◌, ◌^◌, ◌<◌, ◌≤◌, ◌==◌, ◌&&◌, Bool, true, false, cond, List, [], ◌∷◌, ◌++◌, length, get_or, refl, sym, ap, ◌∙◌, append-nil, append_assoc, arith, lt-ltb, inl, inr}
use Rattle.std.specs.Prelude.{Option, Some, None, not, nat_lt, nat_le, unwrap_or, is_some}
use Rattle.std.specs.Fmt.{decimal}
use Rattle.std.proofs.lemmas.Bool.{le-leb, ne_eqb, eq-eqb, or_right, and_from, cond-true, cases_lt, ltb-true}
use Rattle.std.proofs.lemmas.Fmt.{decimal_by_steps, decimal_nonempty, first_decimal, length-decimal-le}
use Rattle.lid_base.specs.Numbers.{is_digit, number_on, begins_number, number_below, is_below, value_below}

digit : (d : ℕ) → d < 10 → is_digit (48 + d) ≡ true
digit d h = let low : 48 ≤ 48 + d = omega arith in let high : 48 + d ≤ 57 = omega arith in and_from (nat_le 48 (48 + d)) (nat_le (48 + d) 57) (le-leb 48 (48 + d) low) (le-leb (48 + d) 57 high)

-- a digit is read after a number below the limit
number_step : (limit n d : ℕ) (rest : List ℕ) → d < 10 → n < limit → number_on limit n ((48 + d) ∷ rest) ≡ number_on limit (n * 10 + d) rest
number_step limit n d rest small below =
    let less : (48 + d) - 48 ≡ d = omega arith in
    cond-true (is_digit (48 + d) && nat_lt n limit) (number_on limit (n * 10 + ((48 + d) - 48)) rest) None (and_from (is_digit (48 + d)) (nat_lt n limit) (digit d small) (lt-ltb n limit below))
    ∙ ap (λ (k : ℕ). number_on limit (n * 10 + k) rest) less

-- after the digits of n the number is n
abbrev IsReadAs : ℕ → ℕ → List ℕ → Type 0
IsReadAs limit n ds = n < limit → (rest : List ℕ) → number_on limit 0 (ds ++ rest) ≡ number_on limit n rest

read_one : (limit n : ℕ) → n < 10 → IsReadAs limit n ((48 + n) ∷ [])
read_one limit n small below rest = let same : 0 * 10 + n ≡ n = omega arith in number_step limit 0 n rest small (omega arith) ∙ ap (λ (k : ℕ). number_on limit k rest) same

read_more : (limit n : ℕ) (ds : List ℕ) → 10 ≤ n → IsReadAs limit (n / 10) ds → IsReadAs limit n (ds ++ ((48 + n % 10) ∷ []))
read_more limit n ds large front below rest =
    let whole : n / 10 * 10 + n % 10 ≡ n = omega arith in
    let less : n / 10 < limit = omega arith in
    let small : n % 10 < 10 = omega arith in
    ap (number_on limit 0) (append_assoc ds ((48 + n % 10) ∷ []) rest)
    ∙ front less ((48 + n % 10) ∷ rest)
    ∙ number_step limit (n / 10) (n % 10) rest small less
    ∙ ap (λ (k : ℕ). number_on limit k rest) whole

digits_read : (limit n : ℕ) → n < 2 ^ 64 → IsReadAs limit n (decimal n)
digits_read limit n h = decimal_by_steps (IsReadAs limit) (read_one limit) (read_more limit) n h

-- there is no leading zero
begins_by : (n : ℕ) (ds : List ℕ) → 0 < length ds → (0 < n → 48 < get_or ds 0 0) → (n < 10 → length ds ≤ 1) → begins_number ds ≡ true
begins_by n [] some first one = absurd (omega arith)
begins_by n (b ∷ bs) some first one =
    elim (cases_lt 0 n) [
      | inl more ↦ let least : 48 < b = first more in let other : (b == 48) ≡ false = ne_eqb b 48 (λ e. absurd (omega arith)) in rw other refl
      | inr none ↦ let short : length (b ∷ bs) ≤ 1 = one (omega arith) in let last : length bs ≡ 0 = omega arith in or_right (not (b == 48)) (length bs == 0) (eq-eqb (length bs) 0 last)
    ]

begins : (n : ℕ) → n < 2 ^ 64 → begins_number (decimal n) ≡ true
begins n h = begins_by n (decimal n) (decimal_nonempty n h) (λ p. first_decimal n p h) (λ p. length-decimal-le 1 n (omega arith) p h)

pub number_back : (limit n : ℕ) → n < limit → n < 2 ^ 64 → number_below limit (decimal n) ≡ Some n
unfolding number_below
number_back limit n below h =
    cond-true (begins_number (decimal n)) (number_on limit 0 (decimal n)) None (begins n h)
    ∙ ap (number_on limit 0) (sym (append-nil (decimal n)))
    ∙ digits_read limit n h below []
    ∙ cond-true (nat_lt n limit) (Some n) None (lt-ltb n limit below)

pub value_back : (limit n : ℕ) → n < limit → n < 2 ^ 64 → value_below limit (decimal n) ≡ n
value_back limit n below h = ap (λ (o : Option ℕ). unwrap_or o 0) (number_back limit n below h)

pub is_number : (limit n : ℕ) → n < limit → n < 2 ^ 64 → is_below limit (decimal n) ≡ true
is_number limit n below h = ap (λ (o : Option ℕ). is_some o) (number_back limit n below h)

-- a number that is read lies below the limit
number_on_below : (limit n v : ℕ) (bs : List ℕ) → number_on limit n bs ≡ Some v → v < limit
number_on_below limit n v [] e = by_test (nat_lt n limit) refl e
  where
    by_test : (b : Bool) → nat_lt n limit ≡ b → cond b (Some n) None ≡ Some v → v < limit
    by_test true is e = let less : n < limit = ltb-true n limit is in let same : n ≡ v = cc in omega arith
    by_test false is e = cc
number_on_below limit n v (b ∷ bs) e = by_test (is_digit b && nat_lt n limit) e (λ h. number_on_below limit (n * 10 + (b - 48)) v bs h)
  where
    by_test : (t : Bool) → cond t (number_on limit (n * 10 + (b - 48)) bs) None ≡ Some v → (number_on limit (n * 10 + (b - 48)) bs ≡ Some v → v < limit) → v < limit
    by_test true e later = later e
    by_test false e later = cc

pub value_below_less : (limit : ℕ) (word : List ℕ) → 0 < limit → value_below limit word < limit
unfolding number_below
value_below_less limit word some = by_form (begins_number word)
  where
    by_value : (o : Option ℕ) → number_on limit 0 word ≡ o → unwrap_or o 0 < limit
    by_value None is = some
    by_value (Some v) is = number_on_below limit 0 v word is

    by_form : (b : Bool) → unwrap_or (cond b (number_on limit 0 word) None) 0 < limit
    by_form true = by_value (number_on limit 0 word) refl
    by_form false = some
