-- Rows of bits as a text: how they are read, as a function of the whole text.
use Rattle.std.specs.Prelude.{◌≡◌, ℕ, ◌*◌, ◌==◌, nat_eq, nat_lt, Bool, true, false, not, ◌||◌, if◌then◌else◌, List, [], ◌∷◌, length, map, drop, Option, Some, None, Result, Ok, Err}
use Rattle.std.specs.List.{All, concat, enumerate_from, filter, flat_map, list_any}
use Rattle.std.specs.Cmp.Lexicographic.{pointwise}
use Rattle.lid_base.specs.declared.which.Which.TheVariants.{FileBytes, OutBits}
use Rattle.lid_base.specs.declared.which.Which.TheVariants as which
use Rattle.lid_base.specs.Lines.{words_of, has_bad_byte, physical_lines, joins_of, number_of}
use Rattle.lid_texts.specs.declared.rows.Rows.{Rows}
use Rattle.lid_texts.specs.declared.rows.VecFault.{VecFault}
use Rattle.lid_texts.specs.declared.rows.VecFault.TheVariants.{Header, Width, Char, Limit}

-- each row is as wide as the columns
abbrev pub IsWide : Rows → Type 0
IsWide rows = All (λ row. length row ≡ length rows.columns) rows.bits

-- a logical line of a rows text, and whether one of its physical lines has a bad byte
pub record RowsLine : Type 0 where
  pub number : ℕ
  pub words : List (List ℕ)
  pub bad : Bool

-- the line of a join of physical lines
abbrev pub rows_line : List (ℕ × List ℕ) → RowsLine
rows_line join = record {
  number = number_of join;
  words = flat_map (λ p. words_of p.1) join;
  bad = list_any (λ p. has_bad_byte p.1) join;
}

-- a bad byte is no separator, so a line that has nothing else has a word
abbrev pub has_words : RowsLine → Bool
has_words line = nat_lt 0 (length line.words)

-- the logical lines of a rows text
unfoldable pub rows_lines : List ℕ → List RowsLine
rows_lines bytes = filter has_words (map rows_line (joins_of (physical_lines bytes)))

-- whether there are columns
abbrev pub is_any : List (List ℕ) → Bool
is_any [] = false
is_any (column ∷ columns) = true

-- the words of the header line: the columns, or the one word `-` where there are none
abbrev pub header_words : List (List ℕ) → List (List ℕ)
header_words columns = if is_any columns then columns else (45 ∷ []) ∷ []

-- a word over 1,048,576 bytes
abbrev pub has_long_word : List (List ℕ) → Bool
has_long_word words = list_any (λ w. nat_lt 1048576 (length w)) words

abbrev pub is_header : List (List ℕ) → List (List ℕ) → Bool
is_header columns words = pointwise (pointwise nat_eq) words (header_words columns)

-- what is at fault in the first logical line
unfoldable pub header_fault : List (List ℕ) → RowsLine → Option VecFault
header_fault columns line =
    if line.bad then Some (Char line.number)
    else if has_long_word line.words || not (is_header columns line.words) then Some Header
    else None

-- how many characters a row has
abbrev pub row_width : List (List ℕ) → ℕ
row_width columns = if is_any columns then length columns else 1

-- the characters of a row: `0` and `1`, or `-` where there are no columns
abbrev pub is_row_char : List (List ℕ) → ℕ → Bool
is_row_char columns b = if is_any columns then (b == 48) || (b == 49) else b == 45

-- a word with another character
abbrev pub is_stray_word : List (List ℕ) → List ℕ → Bool
is_stray_word columns word = list_any (λ b. not (is_row_char columns b)) word

-- what is at fault in a row, where it is the k-th, counted from 1
unfoldable pub row_fault : List (List ℕ) → ℕ → ℕ → RowsLine → Option VecFault
row_fault columns outs k line =
    if line.bad then Some (Char line.number)
    else if nat_lt 1000000 k then Some (Limit which.Rows k)
    else if nat_lt 67108864 (k * outs) then Some (Limit OutBits (k * outs))
    else if has_long_word line.words || not (length (concat line.words) == row_width columns) then Some (Width line.number)
    else if list_any (is_stray_word columns) line.words then Some (Char line.number)
    else None

-- the bits of a row
unfoldable pub row_bits : List (List ℕ) → RowsLine → List Bool
row_bits columns line = if is_any columns then map (λ b. b == 49) (concat line.words) else []

-- the first that there is
abbrev pub first_some : {A : Type 0} → List (Option A) → Option A
first_some [] = None
first_some (None ∷ options) = first_some options
first_some (Some a ∷ options) = Some a

-- what is at fault in each logical line: the first is the header, the others are the rows
abbrev pub line_faults : List (List ℕ) → ℕ → List RowsLine → List (Option VecFault)
line_faults columns outs [] = []
line_faults columns outs (header ∷ rows) = header_fault columns header ∷ map (λ p. row_fault columns outs p.0 p.1) (enumerate_from 1 rows)

-- the fault of some logical lines, where they have one; there is a header
abbrev pub lines_fault : List (List ℕ) → ℕ → List RowsLine → Option VecFault
lines_fault columns outs [] = Some Header
lines_fault columns outs (header ∷ rows) = first_some (line_faults columns outs (header ∷ rows))

abbrev pub ok_unless : {A : Type 0} → Option VecFault → A → Result A VecFault
ok_unless None a = Ok a
ok_unless (Some fault) a = Err fault

-- the bits of all rows, or the fault of the first line that has one
unfoldable pub bits_reading : List (List ℕ) → ℕ → List RowsLine → Result (List (List Bool)) VecFault
bits_reading columns outs lines = ok_unless (lines_fault columns outs lines) (map (row_bits columns) (drop 1 lines))

abbrev pub under_columns : List (List ℕ) → Result (List (List Bool)) VecFault → Result Rows VecFault
under_columns columns (Ok bits) = Ok (record { columns = columns; bits = bits })
under_columns columns (Err fault) = Err fault

-- the rows that a text stands for, or its fault
unfoldable pub rows_reading : List (List ℕ) → ℕ → List ℕ → Result Rows VecFault
rows_reading columns outs bytes =
    if nat_lt 67108864 (length bytes) then Err (Limit FileBytes (length bytes))
    else under_columns columns (bits_reading columns outs (rows_lines bytes))
