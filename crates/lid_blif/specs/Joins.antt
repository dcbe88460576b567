-- The words of a text while it is cut into lines.
use Rattle.std.specs.Prelude.{◌≡◌, ℕ, ◌+◌, ◌≤◌, nat_lt, Bool, List, [], ◌∷◌, ◌++◌, length, take, drop}
use Rattle.std.specs.List.{list_any}
use Rattle.lid_base.specs.Lines.{ends_in_mark}
use Rattle.lid_base.specs.declared.line.Line.{Line}
use Rattle.lid_base.specs.Joins.{open_lines}
use Rattle.lid_blif.specs.Places.{bytes_of_words}
use Rattle.lid_blif.specs.declared.cutting.LineSize.{LineSize}
use Rattle.lid_blif.specs.declared.cutting.Joined.{Joined}

-- a word that ends in a backslash
abbrev pub has_marked_word : List (List ℕ) → Bool
has_marked_word words = list_any ends_in_mark words

abbrev pub has_longer_word : ℕ → List (List ℕ) → Bool
has_longer_word longest words = list_any (λ w. nat_lt longest (length w)) words

-- the lines that sizes cut from words: each takes as many words as its size counts
abbrev pub lines_cut : List LineSize → List (List ℕ) → List Line
lines_cut [] words = []
lines_cut (size ∷ sizes) words = record { number = size.number; words = take size.count words } ∷ lines_cut sizes (drop size.count words)

-- how many words the sizes count
abbrev pub words_counted : List LineSize → ℕ
words_counted [] = 0
words_counted (size ∷ sizes) = size.count + words_counted sizes

-- the lines that are done, and the words of the open line
abbrev pub done_lines : Joined → List Line
done_lines joined = lines_cut joined.sizes.items (bytes_of_words joined.text.now joined.words.items)

abbrev pub open_words : Joined → List (List ℕ)
open_words joined = drop joined.start (bytes_of_words joined.text.now joined.words.items)

-- the open line begins behind the words of those that are done
pub record OpensBehind (joined : Joined) : Type 0 where
  pub start : words_counted joined.sizes.items ≡ joined.start
  pub within : joined.start ≤ length joined.words.items

-- the lines that are done, and those that come of the physical lines
abbrev pub all_lines : Joined → List (ℕ × List ℕ) → List Line
all_lines joined ps = done_lines joined ++ open_lines joined.number (open_words joined) ps
