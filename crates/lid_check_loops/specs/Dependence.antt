-- Closed walks, and outputs of pearls that depend on inputs: which comes first, and what is told of it.
use Rattle.std.specs.Prelude.{◌≡◌, ℕ, ◌<◌, ◌⊎◌, List, reverse, Some, slice_get}
use Rattle.lid_design.specs.declared.Design.{Design}
use Rattle.lid_design.specs.declared.Model.{Model}
use Rattle.lid_design.specs.Columns.{Column, data_inputs, model_at}
use Rattle.lid_design.specs.Elaboration.{columns}
use Rattle.lid_design.specs.Loops.{IsOnLoop, pearls, IsDependent}
use Rattle.lid_check_rules.specs.declared.fault.CheckFault.{CheckFault}
use Rattle.lid_check_rules.specs.declared.fault.CheckFault.TheVariants.{CombLoop, OutputFromInput}

-- the number of the first column on a closed walk
pub record IsFirstOnLoop (d : Design) (k : ℕ) : Type 0 where
  pub c : Column
  pub here : slice_get (columns d) k ≡ Some c
  pub on : IsOnLoop d c
  pub first : (j : ℕ) (b : Column) → j < k → slice_get (columns d) j ≡ Some b → ¬ IsOnLoop d b

-- the first column on a closed walk is told
pub record TellsLoop (d : Design) (fault : CheckFault) : Type 0 where
  pub k : ℕ
  pub is : IsFirstOnLoop d k
  pub told : fault ≡ CombLoop (reverse is.c.path) is.c.net

-- output o of pearl p depends on data input i of it, in one row
pub record DependsOn (d : Design) (p o i : ℕ) (m : Model) (output input : List ℕ) : Type 0 where
  pub path : List ℕ
  pub pearl : slice_get (pearls d) p ≡ Some path
  pub model : model_at d path ≡ Some m
  pub out : slice_get m.outputs o ≡ Some output
  pub given : slice_get (data_inputs d m) i ≡ Some input
  pub walk : IsDependent d path input output

-- no output of a pearl depends on an input of it
abbrev pub HasNoDependence : Design → Type 0
HasNoDependence d = (p o i : ℕ) (m : Model) (output input : List ℕ) → ¬ DependsOn d p o i m output input

-- by pearls, then by outputs, then by inputs
abbrev pub StandsBefore : ℕ → ℕ → ℕ → ℕ → ℕ → ℕ → Type 0
StandsBefore p o i p' o' i' = (p < p') ⊎ ((p ≡ p') × ((o < o') ⊎ ((o ≡ o') × (i < i'))))

-- the place of the first output that depends on an input, and that of the first such input
pub record IsFirstDependent (d : Design) (o i : ℕ) : Type 0 where
  pub p : ℕ
  pub m : Model
  pub output : List ℕ
  pub input : List ℕ
  pub on : DependsOn d p o i m output input
  pub first : (p' o' i' : ℕ) (m' : Model) (output' input' : List ℕ) → StandsBefore p' o' i' p o i → ¬ DependsOn d p' o' i' m' output' input'

-- the first output that depends on an input is told, with the first such input
pub record TellsDependence (d : Design) (fault : CheckFault) : Type 0 where
  pub o : ℕ
  pub i : ℕ
  pub is : IsFirstDependent d o i
  pub told : fault ≡ OutputFromInput is.m.name is.output is.input
