-- What a text that is scanned piece by piece holds, with its rows packed.
use Rattle.std.specs.Prelude.{◌≡◌, ℕ, List, [], length, Ok}
use Rattle.lid_texts.specs.Rows.{rows_reading}
use Rattle.lid_texts.specs.Scans.{ended_rows}
use Rattle.lid_texts.specs.Scanned.{HasRead}
use Rattle.lid_texts_packed.specs.Rows.{WideRows}
use Rattle.lid_texts_feed.specs.declared.packing.Packing.{Packing}

-- these bytes of a text with these columns were scanned, and the rows that have ended in them are packed
pub record HasPacked (columns : List (List ℕ)) (outs : ℕ) (bytes : List ℕ) (p : Packing) : Type 0 where
  pub read : HasRead p.scan bytes
  pub columns_are : p.scan.columns ≡ columns
  pub outs_are : p.scan.outs ≡ outs
  pub none : p.given.items ≡ []
  pub wide : p.packed.width ≡ length columns
  pub rows : p.packed.rows ≡ ended_rows columns outs bytes

-- the text stands for these rows, which are as wide as the columns
pub record IsReadPacked (columns : List (List ℕ)) (outs : ℕ) (text : List ℕ) (packed : WideRows) : Type 0 where
  pub wide : packed.width ≡ length columns
  pub reads : rows_reading columns outs text ≡ Ok (record { columns = columns; bits = packed.rows })
