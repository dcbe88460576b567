-- Rows of bits as a text: how they are written.
use Rattle.std.specs.Prelude.{ℕ, Bool, if◌then◌else◌, List, [], ◌∷◌, ◌++◌, map}
use Rattle.std.specs.List.{flat_map}
use Rattle.lid_base_lines.specs.Texts.{line_text}
use Rattle.lid_texts.specs.Rows.{is_any, header_words}

abbrev pub bit_char : Bool → ℕ
bit_char bit = if bit then 49 else 48

-- a row as one word
abbrev pub row_text : List (List ℕ) → List Bool → List ℕ
row_text columns row = (if is_any columns then map bit_char row else 45 ∷ []) ++ 10 ∷ []

-- the header line and a line for each row
unfoldable pub rows_text : List (List ℕ) → List (List Bool) → List ℕ
rows_text columns bits = line_text (header_words columns) ++ flat_map (row_text columns) bits
