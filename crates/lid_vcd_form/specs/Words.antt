-- The words of a dump, each with the number of its line. No sign begins a comment, and no line goes on.
use Rattle.std.specs.Prelude.{ℕ, suc, ◌+◌, Bool, true, not, ◌||◌, if◌then◌else◌, List, [], ◌∷◌, ◌++◌}
use Rattle.lid_base.specs.Lines.{is_newline, is_separator}

-- blank, tab, carriage return and newline separate words
abbrev pub separates : ℕ → Bool
separates b = is_newline b || is_separator b

-- a word that ended stands before those after it; no bytes are no word
abbrev pub word_before : ℕ → List ℕ → List (ℕ × List ℕ) → List (ℕ × List ℕ)
word_before line [] words = words
word_before line (b ∷ bs) words = (line, b ∷ bs) ∷ words

-- the words that end in some bytes, where these bytes of a word on this line came before them
abbrev pub words_on : ℕ → List ℕ → List ℕ → List (ℕ × List ℕ)
words_on line word [] = word_before line word []
words_on line word (b ∷ bs) =
    if is_newline b then word_before line word (words_on (line + 1) [] bs)
    else if is_separator b then word_before line word (words_on line [] bs)
    else words_on line (word ++ b ∷ []) bs

-- the words of a text, each with the number of its line, counted from 1
unfoldable pub placed_words : List ℕ → List (ℕ × List ℕ)
placed_words bytes = words_on 1 [] bytes

-- whether a text begins with a word, or has no byte
abbrev pub begins_word : List ℕ → Bool
begins_word [] = true
begins_word (b ∷ bs) = not (separates b)

-- how many bytes stand before the first that separates words
abbrev pub word_length : List ℕ → ℕ
word_length [] = 0
word_length (b ∷ bs) = if separates b then 0 else suc (word_length bs)
