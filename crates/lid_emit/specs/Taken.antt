-- Names that are taken, of lists of names.
use Rattle.std.specs.Prelude.{◌||◌, ℕ, Bool, List, find, Option}
use Rattle.lid_design.specs.Columns.{is_among}
use Rattle.lid_emit_meaning.specs.Ports.{own_names, or_else}

-- serves the body: an input that the emitted design needs for itself, or that is among the outputs
abbrev pub is_taken : List (List ℕ) → List ℕ → Bool
is_taken outputs name = is_among name own_names || is_among name outputs

-- serves the body: the name that is taken first among data inputs and outputs
abbrev pub taken_in : List (List ℕ) → List (List ℕ) → Option (List ℕ)
taken_in inputs outputs = or_else (find (is_taken outputs) inputs) (find (λ name. is_among name own_names) outputs)
