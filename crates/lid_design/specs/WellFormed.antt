-- What is wanted of a design before it is checked: each design that a text stands for is so.
use Rattle.std.specs.Prelude.{◌≡◌, ℕ, ◌<◌, ◌^◌, List, length, map, bytes_eq, ⊤}
use Rattle.std.specs.List.{AllByRecursion, IsDistinct}
use Rattle.lid_cover.specs.Cover.{IsCover}
use Rattle.lid_design.specs.declared.Design.{Design}
use Rattle.lid_design.specs.declared.Model.{Model}
use Rattle.lid_design.specs.declared.Cell.{Cell}
use Rattle.lid_design.specs.declared.Cell.TheVariants.{Names, Latch}

-- the cover of a cell meets the rules of covers, and has as many inputs as the cell
abbrev pub IsWellFormedCell : Cell → Type 0
IsWellFormedCell (Names inputs out cover) = IsCover cover × (cover.inputs ≡ length inputs)
IsWellFormedCell (Latch input out kind control init) = ⊤

abbrev pub model_name : Model → List ℕ
model_name m = m.name

-- the root is one of fewer than 2^32 models, each of a name of its own, with fewer than 2^32
-- instances, whose covers are well formed
pub record IsWellFormed (d : Design) : Type 0 where
  pub rooted : d.root < length d.models
  pub few : length d.models < 2 ^ 32
  pub distinct : IsDistinct bytes_eq (map model_name d.models)
  pub insts : AllByRecursion (λ m. length m.insts < 2 ^ 32) d.models
  pub cells : AllByRecursion (λ m. AllByRecursion IsWellFormedCell m.cells) d.models
