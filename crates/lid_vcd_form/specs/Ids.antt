-- How a dump names variables, and how it writes tokens.
use Rattle.std.specs.Prelude.{ℕ, zero, suc, ◌+◌, ◌-◌, ◌*◌, ◌/◌, ◌%◌, ◌==◌, nat_lt, nat_le, Bool, ◌&&◌, ◌||◌, if◌then◌else◌, List, [], ◌∷◌, ◌++◌, length, codes, bytes_eq, Option, Some, None}
use Rattle.std.specs.List.{list_all}

-- the ID of a variable below 830,584: its number in base 94, least digit first; digit d is the
-- character 33 + d, and the last digit of more than one is not 0
unfoldable pub id_of : ℕ → List ℕ
id_of n =
    if nat_lt n 94 then (33 + n) ∷ []
    else if nat_lt n 8836 then (33 + n % 94) ∷ (33 + n / 94) ∷ []
    else (33 + n % 94) ∷ (33 + n / 94 % 94) ∷ (33 + n / 8836 % 94) ∷ []

-- the number that one, two or three digits stand for
abbrev pub id_value : List ℕ → ℕ
id_value (a ∷ []) = a - 33
id_value (a ∷ b ∷ []) = (a - 33) + 94 * (b - 33)
id_value (a ∷ b ∷ c ∷ []) = (a - 33) + 94 * (b - 33) + 8836 * (c - 33)
id_value _ = 0

-- the variable, of so many, that a word names
unfoldable pub variable_of : ℕ → List ℕ → Option ℕ
variable_of variables word = if nat_lt (id_value word) variables && bytes_eq word (id_of (id_value word)) then Some (id_value word) else None

abbrev pub is_bit : ℕ → Bool
is_bit b = (b == 48) || (b == 49)

-- 1 to 31 characters `0` or `1`
abbrev pub are_bits : List ℕ → Bool
are_bits word = nat_lt 0 (length word) && (nat_le (length word) 31 && list_all is_bit word)

-- the number that binary digits stand for when they follow those of n
abbrev pub bits_on : ℕ → List ℕ → ℕ
bits_on n [] = n
bits_on n (b ∷ bs) = bits_on (2 * n + (b - 48)) bs

-- the token that BITS stand for
unfoldable pub token_in_bits : List ℕ → Option ℕ
token_in_bits word = if are_bits word then Some (bits_on 0 word) else None

-- a number by its last binary digits, at most so many and without leading zeros
abbrev pub binary_by : ℕ → ℕ → List ℕ
binary_by zero n = []
binary_by (suc k) n = if nat_lt n 2 then (48 + n) ∷ [] else binary_by k (n / 2) ++ (48 + n % 2) ∷ []

-- BITS of a token below 2^31, without leading zeros
unfoldable pub binary : ℕ → List ℕ
binary n = binary_by 31 n

-- every third variable is the token of its station
abbrev pub is_token : ℕ → Bool
is_token n = n % 3 == 2

-- how many bits a variable has
abbrev pub width_of : ℕ → List ℕ
width_of n = if is_token n then codes "31" else codes "1"

-- what the name of a variable ends in
abbrev pub ending_of : ℕ → List ℕ
ending_of n = if n % 3 == 0 then codes "_valid" else if n % 3 == 1 then codes "_stop" else codes "_token"
