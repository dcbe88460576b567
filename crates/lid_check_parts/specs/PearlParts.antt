-- The columns of each pearl as a part of the network of a design.
use Rattle.std.specs.Prelude.{◌≡◌, ℕ, List, [], ◌++◌, length, map, Some, slice_get}
use Rattle.std.specs.Option.{option_map_or}
use Rattle.lid_base.specs.Lists.{Among}
use Rattle.lid_design.specs.declared.Design.{Design}
use Rattle.lid_design.specs.declared.Model.{Model}
use Rattle.lid_design.specs.Columns.{Column, column, model_at, data_inputs}
use Rattle.lid_design.specs.Models.{number_from}
use Rattle.lid_design.specs.Elaboration.{columns}
use Rattle.lid_design.specs.Loops.{pearls}
use Rattle.lid_check_elab.specs.declared.driver.ColumnDriver.{ColumnDriver}
use Rattle.lid_check_elab.specs.Numbers.{columns_in, StandsInList}
use Rattle.lid_check_parts.specs.declared.part.PearlPart.{PearlPart}
use Rattle.lid_check_parts.specs.Parts.{IsNetworkPart}

-- the outputs of a model, by the model's number
abbrev pub outputs_of : Design → ℕ → List (List ℕ)
outputs_of d k = option_map_or (λ m. m.outputs) (slice_get d.models k) []

-- no data input of a pearl is an output of it
abbrev pub ArePortsApart : Design → Type 0
ArePortsApart d =
    (p : ℕ) (path net : List ℕ) (m : Model)
    → slice_get (pearls d) p ≡ Some path
    → model_at d path ≡ Some m
    → Among net (data_inputs d m)
    → ¬ Among net m.outputs

-- the number of a pearl, with its path, the number of its model, and the model
pub record IsPearl (d : Design) (pearl : ℕ) : Type 0 where
  pub path : List ℕ
  pub here : slice_get (pearls d) pearl ≡ Some path
  pub number : ℕ
  pub leads : number_from d d.root path ≡ Some number
  pub model : Model
  pub body : model_at d path ≡ Some model

-- a part has, in order, the columns of a pearl and of all instances in it, of which those of the pearl's
-- data inputs come first and those of its outputs next
pub record IsPearlPart (d : Design) (pearl : ℕ) (part : PearlPart) : Type 0 where
  pub of : IsPearl d pearl
  pub stands : StandsInList (columns d) part.start (columns_in (length d.models) d of.path of.number)
  pub long : length (columns_in (length d.models) d of.path of.number) ≡ part.nets
  pub more : List Column
  pub begins : columns_in (length d.models) d of.path of.number ≡ map (column of.path) (data_inputs d of.model) ++ (map (column of.path) of.model.outputs ++ more)
  pub inputs : part.inputs ≡ length (data_inputs d of.model)
  pub outputs : part.outputs ≡ length of.model.outputs

-- a part for each pearl, in order, of the network with these drivers
pub record ArePearlParts (d : Design) (drivers : List ColumnDriver) (parts : List PearlPart) : Type 0 where
  pub count : length parts ≡ length (pearls d)
  pub each : (p : ℕ) (part : PearlPart) → slice_get parts p ≡ Some part → IsPearlPart d p part × IsNetworkPart drivers part
