-- The rows that a run is over, however they are held.
use Rattle.std.specs.Prelude.{Bool, List}
use Rattle.lid_texts_packed.specs.declared.input.InputRows.{InputRows}
use Rattle.lid_texts_packed.specs.declared.input.InputRows.TheVariants.{Listed, Packed}

abbrev pub input_of : InputRows → List (List Bool)
input_of (Listed rows) = rows.now.bits
input_of (Packed rows) = rows.now.rows
