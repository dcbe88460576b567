-- Texts made of lines of words.
use Rattle.std.specs.Prelude.{ℕ, ◌+◌, List, [], ◌∷◌, ◌++◌}
use Rattle.std.specs.List.{flat_map, join_with_byte}
use Rattle.lid_base.specs.declared.line.Line.{Line}

-- the words of a line
abbrev pub Words : Type 0
Words = List (List ℕ)

-- a line: its words with a blank between each two, and a newline
unfoldable pub line_text : Words → List ℕ
line_text words = join_with_byte 32 words ++ 10 ∷ []

-- lines as a text
abbrev pub lines_text : List Words → List ℕ
lines_text lines = flat_map line_text lines

-- words, each after a blank
abbrev pub spaced : Words → List ℕ
spaced words = flat_map (λ word. 32 ∷ word) words

-- lines with numbers that count up
abbrev pub numbered_lines : ℕ → List Words → List Line
numbered_lines n [] = []
numbered_lines n (words ∷ lines) = record { number = n; words = words } ∷ numbered_lines (n + 1) lines
