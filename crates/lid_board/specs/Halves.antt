-- The two halves of a word, by the places that they show.
use Rattle.std.specs.Prelude.{ℕ, ◌+◌, ◌*◌, ◌/◌, ◌%◌, ◌==◌, cond}

-- what a word shows of a place: its lower half for an even place, its upper half for an odd one
abbrev pub word_half : ℕ → ℕ → ℕ
word_half place number = cond (place % 2 == 0) (number % 4294967296) (number / 4294967296)

-- the bits that stay where a place is emptied: those of the other half
abbrev pub others : ℕ → ℕ
others place = cond (place % 2 == 0) 18446744069414584320 4294967295

-- the bits of a token in a place, with the full bit
abbrev pub filling : ℕ → ℕ → ℕ
filling place token = cond (place % 2 == 0) (2147483648 + token) (4294967296 * (2147483648 + token))
