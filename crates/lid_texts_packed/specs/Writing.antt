-- Texts of rows that are written row by row.
use Rattle.std.specs.Prelude.{◌≡◌, Bool, List}
use Rattle.lid_texts.specs.RowsText.{rows_text}
use Rattle.lid_texts_packed.specs.declared.writer.RowsPrinter.{RowsPrinter}

-- the text so far is that of these rows
abbrev pub HasPrinted : RowsPrinter → List (List Bool) → Type 0
HasPrinted printer rows = printer.text.items ≡ rows_text printer.columns.now rows
