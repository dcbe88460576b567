-- Rows of one width in words.
use Rattle.std.specs.Prelude.{ℕ, ◌*◌, Bool, List}
use Rattle.lid_base.specs.Each.{from_each}
use Rattle.lid_texts_packed.specs.Bits.{words_for, has_bit}

-- a width, and rows
pub record WideRows : Type 0 where
  pub width : ℕ
  pub rows : List (List Bool)

-- the row of this number: each row begins with a word of its own
abbrev pub row_in : List ℕ → ℕ → ℕ → List Bool
row_in words width row = from_each (has_bit words (row * words_for width)) 0 width

-- the first of them
abbrev pub rows_in : List ℕ → ℕ → ℕ → List (List Bool)
rows_in words width count = from_each (row_in words width) 0 count
