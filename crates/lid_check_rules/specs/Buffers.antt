-- Covers that give their input.
use Rattle.std.specs.Prelude.{◌==◌, Bool, ◌&&◌, [], ◌∷◌}
use Rattle.lid_cover.specs.declared.Cover.{Cover}
use Rattle.lid_design.specs.declared.Cell.TheVariants.{Names}
use Rattle.lid_design.specs.Models.{is_buffer}

-- whether a cover has one input, whose value it takes: a cell of one input with that cover is a buffer
unfoldable pub passes_on : Cover → Bool
passes_on cover = (cover.inputs == 1) && is_buffer (Names ([] ∷ []) [] cover)
