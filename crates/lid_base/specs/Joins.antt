-- The logical lines that are still to come where one is open.
use Rattle.std.specs.Prelude.{ℕ, ◌+◌, if◌then◌else◌, List, [], ◌∷◌, ◌++◌, filter}
use Rattle.lid_base.specs.declared.line.Line.{Line}
use Rattle.lid_base.specs.declared.line.Joined.{Joined}
use Rattle.lid_base.specs.Lines.{goes_on, words_of, has_words}

-- a logical line that has ended, or none where it has no word
abbrev pub closed_lines : ℕ → List (List ℕ) → List Line
closed_lines number words = filter has_words (record { number = number; words = words } ∷ [])

-- the lines that the physical lines give, where a line with this number and these words is open
abbrev pub open_lines : ℕ → List (List ℕ) → List (ℕ × List ℕ) → List Line
open_lines number words [] = closed_lines number words
open_lines number words (p ∷ ps) =
    if goes_on p.1 then open_lines number (words ++ words_of p.1) ps else closed_lines number (words ++ words_of p.1) ++ open_lines (p.0 + 1) [] ps

-- those that are done, and those that come of the physical lines
abbrev pub all_lines : Joined → List (ℕ × List ℕ) → List Line
all_lines joined ps = joined.done.items ++ open_lines joined.number joined.words.items ps
