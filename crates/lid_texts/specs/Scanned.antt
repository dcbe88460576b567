-- What a scan of rows holds, where some bytes were fed to it.
use Rattle.std.specs.Prelude.{◌≡◌, ℕ, Bool, List, [], ◌∷◌, ◌++◌, length, None, Ok}
use Rattle.std.specs.List.{slice_split}
use Rattle.lid_base.specs.Lines.{is_newline}
use Rattle.lid_texts.specs.declared.scan.RowScan.{RowScan}
use Rattle.lid_texts.specs.Rows.{rows_reading}
use Rattle.lid_texts.specs.Scans.{ended_lines, ended_rows}
use Rattle.lid_texts.specs.RowsWalk.{IsWalked}

-- the scan has read these bytes: the lines that have ended are judged, and the bytes after the last
-- newline are kept while no line is at fault
pub record HasRead (scan : RowScan) (bytes : List ℕ) : Type 0 where
  pub total : scan.total ≡ length bytes
  pub walked : IsWalked scan.columns scan.outs (ended_lines bytes) scan.walk
  pub left : scan.walk.fault ≡ None → slice_split is_newline bytes ≡ ended_lines bytes ++ scan.partial.items ∷ []

-- the rows of the lines that ended with these bytes came after those before
pub record Gives (columns : List (List ℕ)) (outs : ℕ) (before now : List ℕ) (old new : List (List Bool)) : Type 0 where
  pub rows : List (List Bool)
  pub appended : new ≡ old ++ rows
  pub all : ended_rows columns outs now ≡ ended_rows columns outs before ++ rows

-- the first of them came after those before
pub record GivesPrefix (columns : List (List ℕ)) (outs : ℕ) (before now : List ℕ) (old new : List (List Bool)) : Type 0 where
  pub rows : List (List Bool)
  pub rest : List (List Bool)
  pub appended : new ≡ old ++ rows
  pub all : ended_rows columns outs now ≡ ended_rows columns outs before ++ (rows ++ rest)

-- the text stands for rows, so many; those that had not been given came after those before
pub record FinishesScan (columns : List (List ℕ)) (outs : ℕ) (bytes : List ℕ) (old new : List (List Bool)) (n : ℕ) : Type 0 where
  pub bits : List (List Bool)
  pub reads : rows_reading columns outs bytes ≡ Ok (record { columns = columns; bits = bits })
  pub count : n ≡ length bits
  pub rows : List (List Bool)
  pub appended : new ≡ old ++ rows
  pub all : bits ≡ ended_rows columns outs bytes ++ rows
