-- Rows texts that come in pieces: what has ended of the bytes so far.
use Rattle.std.specs.Prelude.{ℕ, ◌-◌, if◌then◌else◌, Bool, List, [], ◌∷◌, length, take, drop, map, Option, is_none}
use Rattle.std.specs.List.{filter, enumerate_from, prefix_len, slice_split}
use Rattle.lid_base.specs.Lines.{goes_on, is_newline}
use Rattle.lid_texts.specs.declared.rows.VecFault.{VecFault}
use Rattle.lid_texts.specs.Rows.{RowsLine, rows_line, has_words, line_faults, first_some, row_bits}

-- the physical lines that a newline has ended
unfoldable pub ended_lines : List ℕ → List (List ℕ)
ended_lines bytes = take (length (slice_split is_newline bytes) - 1) (slice_split is_newline bytes)

-- the joins of some physical lines that have ended, and the lines of one that still goes on
pub record LineJoins : Type 0 where
  pub done : List (List (ℕ × List ℕ))
  pub begun : List (ℕ × List ℕ)

-- a line that goes on, before some joins
abbrev pub before_joins : ℕ × List ℕ → List (List (ℕ × List ℕ)) → List (ℕ × List ℕ) → LineJoins
before_joins p [] begun = record { done = []; begun = p ∷ begun }
before_joins p (join ∷ joins) begun = record { done = (p ∷ join) ∷ joins; begun = begun }

abbrev pub split_joins : List (ℕ × List ℕ) → LineJoins
split_joins [] = record { done = []; begun = [] }
split_joins (p ∷ ps) =
    if goes_on p.1 then before_joins p (split_joins ps).done (split_joins ps).begun
    else record { done = (p ∷ []) ∷ (split_joins ps).done; begun = (split_joins ps).begun }

-- the logical lines that have ended with these physical lines
abbrev pub logical_of : List (List ℕ) → List RowsLine
logical_of lines = filter has_words (map rows_line (split_joins (enumerate_from 1 lines)).done)

-- the fault of the logical lines that have ended, where they have one
unfoldable pub ended_fault : List (List ℕ) → ℕ → List ℕ → Option VecFault
ended_fault columns outs bytes = first_some (line_faults columns outs (logical_of (ended_lines bytes)))

-- the logical lines before the first that is at fault
abbrev pub sound_lines : List (List ℕ) → ℕ → List RowsLine → List RowsLine
sound_lines columns outs lines = take (prefix_len is_none (line_faults columns outs lines)) lines

-- the rows of some logical lines, up to the first that is at fault
abbrev pub sound_rows : List (List ℕ) → ℕ → List RowsLine → List (List Bool)
sound_rows columns outs lines = map (row_bits columns) (drop 1 (sound_lines columns outs lines))

-- the rows of the logical lines that have ended, up to the first that is at fault
unfoldable pub ended_rows : List (List ℕ) → ℕ → List ℕ → List (List Bool)
ended_rows columns outs bytes = sound_rows columns outs (logical_of (ended_lines bytes))
