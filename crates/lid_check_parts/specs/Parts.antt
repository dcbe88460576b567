-- Parts of networks: consecutive columns, what drives them with numbers counted from their first, and the
-- flat part that they make.
use Rattle.std.specs.Prelude.{◌≡◌, ◌+◌, ◌<◌, ◌≤◌, ℕ, List, [], ◌∷◌, ◌++◌, length, map, slice_index_or}
use Rattle.std.specs.List.{AllByRecursion, range_with_len}
use Rattle.lid_cover.specs.Cover.{IsCover}
use Rattle.lid_design.specs.declared.Design.{Design}
use Rattle.lid_design.specs.declared.Flat.{Flat}
use Rattle.lid_design.specs.Walks.{IsDriven, IsDrivenOnce}
use Rattle.lid_design.specs.Flat.{flat_drivers, latch_out, IsNumbered, ReadEarlier, IsFlatCover}
use Rattle.lid_check_elab.specs.declared.driver.ColumnDriver.{ColumnDriver}
use Rattle.lid_check_elab.specs.declared.driver.ColumnDriver.TheVariants.{Input, Latch, Cover as OfCover, Connection}
use Rattle.lid_check_elab.specs.Covers.{cover_in}
use Rattle.lid_check_elab.specs.Elaborations.{shown_driver}
use Rattle.lid_check_parts.specs.Standing.{StandsForAll}
use Rattle.lid_check_parts.specs.declared.part.PearlPart.{PearlPart}

-- the driver of a number
abbrev pub driver_at : List ColumnDriver → ℕ → ColumnDriver
driver_at drivers k = slice_index_or drivers k (Input 0)

-- a number is one of a part
pub record IsIn (part : PearlPart) (k : ℕ) : Type 0 where
  pub first : part.start ≤ k
  pub last : k < part.start + part.nets

-- a driver is no input, and reads numbers of a part alone
abbrev pub StaysIn : PearlPart → ColumnDriver → Type 0
StaysIn part (Input place) = ⊥
StaysIn part (Latch first input) = IsIn part input
StaysIn part (OfCover model cell inputs) = AllByRecursion (IsIn part) inputs
StaysIn part (Connection other) = IsIn part other

-- so many numbers are there, and all but those of the inputs are driven from inside
pub record IsNetworkPart (drivers : List ColumnDriver) (part : PearlPart) : Type 0 where
  pub ports : part.inputs + part.outputs ≤ part.nets
  pub there : part.start + part.nets ≤ length drivers
  pub inner : (k : ℕ) → part.inputs ≤ k → k < part.nets → StaysIn part (driver_at drivers (part.start + k))

-- the cover of a driver meets the rules of covers, and has as many inputs as it reads
abbrev pub HasCover : Design → ColumnDriver → Type 0
HasCover d (OfCover model cell inputs) = IsCover (cover_in d model cell) × ((cover_in d model cell).inputs ≡ length inputs)
HasCover d _ = Unit {0}

-- the rules of flat parts, but for that on inputs and outputs
pub record IsUnjudged (f : Flat) : Type 0 where
  pub below : IsNumbered f
  pub once : IsDrivenOnce (flat_drivers f)
  pub driven : (k : ℕ) → k < f.nets → IsDriven (flat_drivers f) k
  pub earlier : ReadEarlier (f.ins ++ map latch_out f.latches) f.covers
  pub covers : AllByRecursion IsFlatCover f.covers

-- a part as a flat part: its net k is number `start + k`, the first nets are inputs, those after them
-- outputs, each driver stands for that of the number, and nothing drives a number that is no net
pub record IsFlattened (d : Design) (drivers : List ColumnDriver) (part : PearlPart) (f : Flat) : Type 0 where
  pub rules : IsUnjudged f
  pub nets : f.nets ≡ part.nets
  pub ins : f.ins ≡ range_with_len 0 part.inputs
  pub outs : f.outs ≡ range_with_len part.inputs part.outputs
  pub past : (k : ℕ) → f.nets ≤ k → flat_drivers f k ≡ []
  pub each : StandsForAll (λ k. shown_driver d (driver_at drivers k) ∷ []) (λ k. part.start + k) f
