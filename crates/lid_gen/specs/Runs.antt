-- The rows of the generated run, and how many relay stations stand on each channel in it.
use Rattle.std.specs.Prelude.{ℕ, ◌+◌, ◌*◌, ◌==◌, Bool, List}
use Rattle.lid_base.specs.Each.{from_each}
use Rattle.lid_texts.specs.declared.rows.Rows.{Rows}
use Rattle.lid_gen.specs.Draws.{first_state, state_after, drawn}
use Rattle.lid_gen.specs.Designs.{input_name}

-- a row, by four draws from a state on: a 1 for each draw of 1
abbrev pub row_from : ℕ → List Bool
row_from s = from_each (λ j. drawn s j 2 == 1) 0 4

-- the rows by the draws from a state on, four for each
abbrev pub rows_from : ℕ → ℕ → List (List Bool)
rows_from s rows = from_each (λ t. row_from (state_after (4 * t) s)) 0 rows

-- how many draws the design with so many instances takes
abbrev pub design_draws : ℕ → ℕ
design_draws shells = 2 * shells + 4

-- so many rows, by the draws after those of the design
unfoldable pub generated_rows : ℕ → ℕ → ℕ → Rows
generated_rows seed shells rows = record {
  columns = from_each input_name 0 4;
  bits = rows_from (state_after (design_draws shells) (first_state seed)) rows;
}

-- how many relay stations stand on each of so many channels, by the draws after those of the rows
unfoldable pub generated_relays : ℕ → ℕ → ℕ → ℕ → List ℕ
generated_relays seed shells rows channels =
    from_each (λ c. drawn (state_after (design_draws shells + 4 * rows) (first_state seed)) c 4) 0 channels
