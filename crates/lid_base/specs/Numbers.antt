-- Number words: decimal digits, without a leading zero but for `0` itself.
use Rattle.std.specs.Prelude.{ℕ, ◌+◌, ◌-◌, ◌*◌, ◌^◌, ◌==◌, nat_lt, nat_le, Bool, false, not, ◌&&◌, ◌||◌, if◌then◌else◌, List, [], ◌∷◌, length, Option, Some, None, is_some, unwrap_or}

abbrev pub is_digit : ℕ → Bool
is_digit b = nat_le 48 b && nat_le b 57

-- the number that digits stand for when they follow those of n, where it is below the limit; with
-- each digit it grows, so that one that has reached the limit stays there
abbrev pub number_on : ℕ → ℕ → List ℕ → Option ℕ
number_on limit n [] = if nat_lt n limit then Some n else None
number_on limit n (b ∷ bs) = if is_digit b && nat_lt n limit then number_on limit (n * 10 + (b - 48)) bs else None

-- there is a first character, and it is no `0` unless it stands alone
abbrev pub begins_number : List ℕ → Bool
begins_number [] = false
begins_number (b ∷ bs) = not (b == 48) || (length bs == 0)

-- the number that a word stands for, where it is below the limit
unfoldable pub number_below : ℕ → List ℕ → Option ℕ
number_below limit word = if begins_number word then number_on limit 0 word else None

-- the number of a number word: all of them are below 2^64
abbrev pub number : List ℕ → Option ℕ
number word = number_below (2 ^ 64) word

abbrev pub is_below : ℕ → List ℕ → Bool
is_below limit word = is_some (number_below limit word)

-- the number of a word that stands for one, and 0 for any other
abbrev pub value_below : ℕ → List ℕ → ℕ
value_below limit word = unwrap_or (number_below limit word) 0
