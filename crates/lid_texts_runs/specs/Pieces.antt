-- The words of lines that tell of runs.
use Rattle.std.specs.Prelude.{ℕ, zero, suc, ◌+◌, ◌-◌, ◌/◌, ◌%◌, ◌==◌, nat_lt, if◌then◌else◌, List, [], ◌∷◌, ◌++◌, map, codes}
use Rattle.std.specs.Fmt.{decimal}
use Rattle.lid_base_lines.specs.Texts.{line_text}
use Rattle.lid_texts_runs.specs.declared.pieces.Piece.{Piece}
use Rattle.lid_texts_runs.specs.declared.pieces.Piece.TheVariants.{Text, Number, Hex, Node}

-- the name of a node by its number, where there are so many: `in`, `u0`, `u1` and so on, `out`
abbrev pub node_name : ℕ → ℕ → List ℕ
node_name count i = if i == 0 then codes "in" else if i == count - 1 then codes "out" else codes "u" ++ decimal (i - 1)

abbrev pub hex_digit : ℕ → ℕ
hex_digit n = if nat_lt n 10 then 48 + n else 87 + n

-- so many lower-case hexadecimal digits, the last ones of a number
abbrev pub hex_digits : ℕ → ℕ → List ℕ
hex_digits zero n = []
hex_digits (suc k) n = hex_digits k (n / 16) ++ hex_digit (n % 16) ∷ []

-- the word of a station, in sixteen hexadecimal digits with leading zeros
abbrev pub hex_word : ℕ → List ℕ
hex_word word = hex_digits 16 word

abbrev pub spelled : Piece → List ℕ
spelled (Text text) = text.now
spelled (Number number) = decimal number
spelled (Hex word) = hex_word word
spelled (Node count i) = node_name count i

abbrev pub pieces_text : List Piece → List ℕ
pieces_text pieces = line_text (map spelled pieces)
