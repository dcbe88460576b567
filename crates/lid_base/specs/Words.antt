-- The words of a line by their places.
use Rattle.std.specs.Prelude.{ℕ, ◌-◌, Bool, List, [], length, slice_index_or, bytes_eq}

-- the word at a place, or no bytes past the end
abbrev pub word_at : List (List ℕ) → ℕ → List ℕ
word_at words i = slice_index_or words i []

-- the last word, or no bytes without words
abbrev pub last_word : List (List ℕ) → List ℕ
last_word words = word_at words (length words - 1)

-- whether a line begins with this word
abbrev pub begins_with : List ℕ → List (List ℕ) → Bool
begins_with name words = bytes_eq (word_at words 0) name
