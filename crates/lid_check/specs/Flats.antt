-- The flat part of a pearl: its columns as numbered nets, with what drives each of them.
use Rattle.std.specs.Prelude.{◌≡◌, ℕ, length, map}
use Rattle.std.specs.List.{range_with_len}
use Rattle.lid_design.specs.declared.Design.{Design}
use Rattle.lid_design.specs.declared.Flat.{Flat}
use Rattle.lid_design.specs.Columns.{Column, column, data_inputs, drivers}
use Rattle.lid_check_elab.specs.Numbers.{columns_in}
use Rattle.lid_check_parts.specs.Standing.{StandsForAll}
use Rattle.lid_check_parts.specs.PearlParts.{IsPearl}

-- a flat part is that of a pearl: its nets stand, in order, for the columns of the pearl and of all
-- instances in it, its inputs and outputs for those of the pearl's model, and its drivers for theirs
pub record IsFlatOf (d : Design) (pearl : ℕ) (f : Flat) : Type 0 where
  pub of : IsPearl d pearl
  pub col : ℕ → Column
  pub all : map col (range_with_len 0 f.nets) ≡ columns_in (length d.models) d of.path of.number
  pub ins : map col f.ins ≡ map (column of.path) (data_inputs d of.model)
  pub outs : map col f.outs ≡ map (column of.path) of.model.outputs
  pub each : StandsForAll (drivers d) col f
