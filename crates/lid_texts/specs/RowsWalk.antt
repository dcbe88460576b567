-- What a scan of rows keeps, where these physical lines were read. This serves the scan alone.
use Rattle.std.specs.Prelude.{◌≡◌, ◌≤◌, ◌<◌, ◌⊎◌, ◌^◌, ℕ, zero, suc, ◌+◌, ◌==◌, Bool, true, false, ◌||◌, if◌then◌else◌, List, [], ◌∷◌, ◌++◌, length, filter, Option, Some, None, is_some, Result, Ok, Err}
use Rattle.std.specs.List.{AllByRecursion, enumerate_from}
use Rattle.lid_base.specs.Lines.{words_of, has_bad_byte}
use Rattle.lid_texts.specs.declared.rows.VecFault.{VecFault}
use Rattle.lid_texts.specs.declared.rows.VecFault.TheVariants.{Header}
use Rattle.lid_texts.specs.declared.walk.RowWalk.{RowWalk}
use Rattle.lid_texts.specs.Rows.{RowsLine, rows_line, has_words, first_some, header_fault, row_fault, line_faults}
use Rattle.lid_texts.specs.Scans.{split_joins, logical_of, sound_rows}

-- what is at fault in a logical line, where it comes after so many others
abbrev pub line_fault : List (List ℕ) → ℕ → ℕ → RowsLine → Option VecFault
line_fault columns outs zero line = header_fault columns line
line_fault columns outs (suc k) line = row_fault columns outs (suc k) line

-- a fault as it is kept: it is the fault where a u32 has the number of its line
pub record IsKeptFault (line : ℕ) (kept fault : Option VecFault) : Type 0 where
  pub some : is_some kept ≡ is_some fault
  pub same : line < 2 ^ 32 → kept ≡ fault

-- a line and its continuation; the number 0 stands for no line yet
abbrev pub joined_lines : RowsLine → RowsLine → RowsLine
joined_lines line more = record {
  number = if line.number == 0 then more.number else line.number;
  words = line.words ++ more.words;
  bad = line.bad || more.bad;
}

-- a physical line as a logical line of its own
abbrev pub alone : ℕ → List ℕ → RowsLine
alone number line = record { number = number; words = words_of line; bad = has_bad_byte line }

abbrev pub no_line : RowsLine
no_line = record { number = 0; words = []; bad = false }

-- a join as a logical line, which it is only where it has words
abbrev pub if_logical : RowsLine → List RowsLine
if_logical line = filter has_words (line ∷ [])

-- the logical line that still goes on
abbrev pub begun_of : List (List ℕ) → RowsLine
begun_of lines = rows_line (split_joins (enumerate_from 1 lines)).begun

-- the logical lines of physical lines, where this is the last
abbrev pub with_last : List (List ℕ) → List ℕ → List RowsLine
with_last lines line = logical_of lines ++ if_logical (joined_lines (begun_of lines) (alone (length lines + 1) line))

-- the rows of some logical lines were appended, where those of the first of them had been
pub record RowsGrow (columns : List (List ℕ)) (outs : ℕ) (lines more : List RowsLine) (old new : List (List Bool)) : Type 0 where
  pub rows : List (List Bool)
  pub appended : new ≡ old ++ rows
  pub all : sound_rows columns outs more ≡ sound_rows columns outs lines ++ rows

-- these logical lines were judged, and none is at fault
pub record AreSound (columns : List (List ℕ)) (outs : ℕ) (lines : List RowsLine) (walk : RowWalk) : Type 0 where
  pub none : walk.fault ≡ None
  pub judged : walk.judged ≡ length lines
  pub few : length lines ≤ 1000001
  pub sound : AllByRecursion (λ fault. fault ≡ None) (line_faults columns outs lines)

-- one of these logical lines is at fault, and stands among the first `number` physical lines
pub record IsFaulty (columns : List (List ℕ)) (outs number : ℕ) (lines : List RowsLine) (walk : RowWalk) : Type 0 where
  pub some : is_some walk.fault ≡ true
  pub kept : IsKeptFault number walk.fault (first_some (line_faults columns outs lines))

abbrev pub AreJudged : List (List ℕ) → ℕ → ℕ → List RowsLine → RowWalk → Type 0
AreJudged columns outs number lines walk = AreSound columns outs lines walk ⊎ IsFaulty columns outs number lines walk

-- these physical lines were read, and no logical line that has ended is at fault
pub record WalkGoes (columns : List (List ℕ)) (outs : ℕ) (lines : List (List ℕ)) (walk : RowWalk) : Type 0 where
  pub number : walk.number ≡ length lines
  pub begun : walk.begun ≡ begun_of lines
  pub sound : AreSound columns outs (logical_of lines) walk

abbrev pub IsWalked : List (List ℕ) → ℕ → List (List ℕ) → RowWalk → Type 0
IsWalked columns outs lines walk = WalkGoes columns outs lines walk ⊎ IsFaulty columns outs (length lines) (logical_of lines) walk

-- how many rows there are, where so many logical lines were judged and this fault was found
abbrev pub judged_count : Option VecFault → ℕ → Result ℕ VecFault
judged_count (Some fault) judged = Err fault
judged_count None zero = Err Header
judged_count None (suc rows) = Ok rows
