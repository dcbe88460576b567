-- The logical lines of a text, as functions of whole lists.
use Rattle.std.specs.Prelude.{ℕ, ◌-◌, ◌==◌, nat_lt, nat_le, Bool, false, not, ◌&&◌, ◌||◌, if◌then◌else◌, List, [], ◌∷◌, length, take, map, filter, Option, Some, None}
use Rattle.std.specs.List.{before_first, slice_split, suffix_len, enumerate_from, flat_map, list_any}
use Rattle.lid_base.specs.declared.line.Line.{Line}
use Rattle.lid_base.specs.declared.line.TextFault.{TextFault}
use Rattle.lid_base.specs.declared.line.TextFault.TheVariants.{BadByte, NameTooLong}

abbrev pub is_newline : ℕ → Bool
is_newline b = b == 10

abbrev pub is_hash : ℕ → Bool
is_hash b = b == 35

-- blank, tab and carriage return separate words
abbrev pub is_separator : ℕ → Bool
is_separator b = (b == 32) || ((b == 9) || (b == 13))

-- outside comments a byte is a separator or lies in 32 to 126
abbrev pub is_allowed : ℕ → Bool
is_allowed b = is_separator b || (nat_le 32 b && nat_le b 126)

-- whether the last byte is a backslash
abbrev pub ends_in_mark : List ℕ → Bool
ends_in_mark [] = false
ends_in_mark (b ∷ []) = b == 92
ends_in_mark (b ∷ c ∷ bs) = ends_in_mark (c ∷ bs)

-- a physical line without its comment
unfoldable pub content_of : List ℕ → List ℕ
content_of line = before_first is_hash line

-- without the separators at the end
unfoldable pub trimmed : List ℕ → List ℕ
trimmed bytes = take (length bytes - suffix_len is_separator bytes) bytes

-- whether the next physical line belongs to the same logical line
unfoldable pub goes_on : List ℕ → Bool
goes_on line = ends_in_mark (trimmed (content_of line))

-- without a backslash at the end
abbrev pub without_mark : List ℕ → List ℕ
without_mark bytes = if ends_in_mark bytes then take (length bytes - 1) bytes else bytes

abbrev pub is_word : List ℕ → Bool
is_word word = nat_lt 0 (length word)

-- the words between separators
unfoldable pub words_in : List ℕ → List (List ℕ)
words_in bytes = filter is_word (slice_split is_separator bytes)

-- the words of a physical line
unfoldable pub words_of : List ℕ → List (List ℕ)
words_of line = words_in (without_mark (trimmed (content_of line)))

-- a byte against the rules, or a word that ends in a backslash
unfoldable pub has_bad_byte : List ℕ → Bool
has_bad_byte line = list_any (λ b. not (is_allowed b)) (content_of line) || list_any ends_in_mark (words_of line)

unfoldable pub has_long_word : ℕ → List ℕ → Bool
has_long_word longest line = list_any (λ w. nat_lt longest (length w)) (words_of line)

-- the physical lines with their numbers, counted from 1
unfoldable pub physical_lines : List ℕ → List (ℕ × List ℕ)
physical_lines bytes = enumerate_from 1 (slice_split is_newline bytes)

-- puts a line before the first join, where there is one
abbrev pub onto_first_join : {A : Type 0} → A → List (List A) → List (List A)
onto_first_join p [] = (p ∷ []) ∷ []
onto_first_join p (join ∷ joins) = (p ∷ join) ∷ joins

-- the maximal joins of physical lines
abbrev pub joins_of : List (ℕ × List ℕ) → List (List (ℕ × List ℕ))
joins_of [] = []
joins_of (p ∷ ps) = if goes_on p.1 then onto_first_join p (joins_of ps) else (p ∷ []) ∷ joins_of ps

-- the number of a join's first physical line
abbrev pub number_of : List (ℕ × List ℕ) → ℕ
number_of [] = 0
number_of (p ∷ ps) = p.0

-- the line of a join, with the words of all its physical lines
abbrev pub line_of : List (ℕ × List ℕ) → Line
line_of join = record { number = number_of join; words = flat_map (λ p. words_of p.1) join }

abbrev pub has_words : Line → Bool
has_words line = nat_lt 0 (length line.words)

abbrev pub lines_of : List (ℕ × List ℕ) → List Line
lines_of ps = filter has_words (map line_of (joins_of ps))

-- the logical lines of a text: joins that have a word
unfoldable pub logical_lines : List ℕ → List Line
logical_lines bytes = lines_of (physical_lines bytes)

-- what is at fault in a physical line
abbrev pub line_fault : ℕ → ℕ × List ℕ → Option TextFault
line_fault longest p =
    if has_bad_byte p.1 then Some (BadByte p.0) else if has_long_word longest p.1 then Some (NameTooLong p.0) else None

-- the first fault of some physical lines
abbrev pub first_fault : ℕ → List (ℕ × List ℕ) → Option TextFault
first_fault longest [] = None
first_fault longest (p ∷ ps) = or_fault (line_fault longest p) (first_fault longest ps)
  where
    or_fault : Option TextFault → Option TextFault → Option TextFault
    or_fault None later = later
    or_fault (Some fault) later = Some fault

-- the fault of a text, where it has one
unfoldable pub text_fault : ℕ → List ℕ → Option TextFault
text_fault longest bytes = first_fault longest (physical_lines bytes)
