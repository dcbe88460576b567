-- Covers told by their places in a design.
use Rattle.std.specs.Prelude.{ℕ, false, List, [], slice_get}
use Rattle.std.specs.Option.{option_map_or}
use Rattle.lid_cover.specs.declared.Cover.{Cover}
use Rattle.lid_design.specs.declared.Design.{Design}
use Rattle.lid_design.specs.declared.Cell.{Cell}
use Rattle.lid_design.specs.declared.Cell.TheVariants.{Names, Latch}

-- the cells of a model, by the model's number
abbrev pub cells_at : Design → ℕ → List Cell
cells_at d k = option_map_or (λ m. m.cells) (slice_get d.models k) []

-- a cover without inputs and rows
abbrev pub no_cover : Cover
no_cover = record { inputs = 0; on = false; cubes = [] }

abbrev pub cell_cover : Cell → Cover
cell_cover (Names inputs out cover) = cover
cell_cover (Latch input out kind control init) = no_cover

-- the cover of cell i of model k
abbrev pub cover_in : Design → ℕ → ℕ → Cover
cover_in d k i = option_map_or cell_cover (slice_get (cells_at d k) i) no_cover
