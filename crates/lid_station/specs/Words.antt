-- The words of a station. Token number i stands in place i mod the capacity. Place p lies in word
-- p div 2: an even place in bits 0 to 30 with full bit 31, an odd one in bits 32 to 62 with full
-- bit 63.
use Rattle.std.specs.Prelude.{ℕ, zero, suc, ◌+◌, ◌-◌, ◌*◌, ◌%◌, ◌/◌, ◌==◌, cond, List, length, get_or}

-- what a place shows of `count` tokens from number `first` on: the token with the full bit, and 0
-- where the place is empty
unfoldable pub half : ℕ → List ℕ → ℕ → ℕ → ℕ → ℕ
half cap tokens first zero place = 0
half cap tokens first (suc count) place =
    cond ((first + count) % cap == place) (2147483648 + get_or tokens (first + count) 0)
    (half cap tokens first count place)

-- what a place shows where the tokens of `filled` were put and those of `drained` taken
abbrev pub half_of : ℕ → List ℕ → List ℕ → ℕ → ℕ
half_of cap filled drained place =
    half cap filled (length drained) (length filled - length drained) place

-- word `number` of a station of a capacity, where the tokens of `filled` were put and those of
-- `drained` taken
unfoldable pub word : ℕ → List ℕ → List ℕ → ℕ → ℕ
word cap filled drained number =
    half_of cap filled drained (2 * number)
    + 4294967296 * half_of cap filled drained (2 * number + 1)

-- the number of the word that has the place of a token
abbrev pub word_number : ℕ → ℕ → ℕ
word_number cap token = (token % cap) / 2
