-- Bits in words of 64.
use Rattle.std.specs.Prelude.{ℕ, ◌+◌, ◌*◌, ◌/◌, ◌%◌, ◌==◌, Bool, if◌then◌else◌, List, [], ◌∷◌, length, take, drop, slice_index_or}
use Rattle.std.specs.Int.{bit_at}
use Rattle.lid_base.specs.Each.{from_each}

-- the number whose lowest bits are these, the first the lowest
abbrev pub value_of_bits : List Bool → ℕ
value_of_bits [] = 0
value_of_bits (bit ∷ bits) = (if bit then 1 else 0) + 2 * value_of_bits bits

-- how many words hold so many bits
abbrev pub words_for : ℕ → ℕ
words_for bits = (bits + 63) / 64

-- the word of this number of those that hold a row
abbrev pub word_in : List Bool → ℕ → ℕ
word_in row k = value_of_bits (take 64 (drop (64 * k) row))

-- all of them
abbrev pub words_of : List Bool → List ℕ
words_of row = from_each (word_in row) 0 (words_for (length row))

-- the bit at this place of those that begin with the word of number `start`
abbrev pub has_bit : List ℕ → ℕ → ℕ → Bool
has_bit words start place = bit_at (slice_index_or words (start + place / 64) 0) (place % 64) == 1
