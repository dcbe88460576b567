-- The words of a text by their places in it.
use Rattle.std.specs.Prelude.{ℕ, ◌-◌, List, map, take, drop}
use Rattle.lid_blif.specs.declared.line.Word.{Word}

-- the bytes of a text from one place up to another
abbrev pub bytes_between : List ℕ → ℕ → ℕ → List ℕ
bytes_between text from to = take (to - from) (drop from text)

-- the bytes of a word that lies in a text
abbrev pub bytes_of_word : List ℕ → Word → List ℕ
bytes_of_word text word = take word.len (drop word.start text)

-- the bytes of words that lie in a text
abbrev pub bytes_of_words : List ℕ → List Word → List (List ℕ)
bytes_of_words text words = map (bytes_of_word text) words
