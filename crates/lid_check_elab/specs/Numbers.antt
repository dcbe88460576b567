-- The numbers of columns: how many columns stand at a model and in its instances, and where the
-- columns of a place start.
use Rattle.std.specs.Prelude.{◌≡◌, ℕ, zero, suc, ◌+◌, ◌<◌, Some, List, [], ◌∷◌, ◌++◌, length, take, flat_map}
use Rattle.std.specs.Option.{option_map_or}
use Rattle.lid_design.specs.declared.Design.{Design}
use Rattle.lid_design.specs.declared.Inst.{Inst}
use Rattle.lid_design.specs.Columns.{Column}
use Rattle.lid_design.specs.Models.{insts_of, number_named, number_from}
use Rattle.lid_design.specs.Elaboration.{instances_in, model_nets, columns_at}

-- the sum of a number for each of some instances, by the number of its model
abbrev pub over_insts : Design → (ℕ → ℕ) → List Inst → ℕ
over_insts d f [] = 0
over_insts d f (inst ∷ insts) = option_map_or f (number_named d inst.model) 0 + over_insts d f insts

-- how many columns a model and its instances have, by at most so many steps into instances
abbrev pub size_within : ℕ → Design → ℕ → ℕ
size_within zero d k = length (model_nets d k)
size_within (suc n) d k = length (model_nets d k) + over_insts d (size_within n d) (insts_of d k)

unfoldable pub size_of : Design → ℕ → ℕ
size_of d k = size_within (length d.models) d k

-- how many columns stand before those of an instance, from the first column of the model on that has it
abbrev pub offset_of : Design → ℕ → ℕ → ℕ
offset_of d k i = length (model_nets d k) + over_insts d (size_of d) (take i (insts_of d k))

-- the number of the first column of a place
unfoldable pub start_of : Design → List ℕ → ℕ
start_of d [] = 0
start_of d (i ∷ path) = start_of d path + option_map_or (λ k. offset_of d k i) (number_from d d.root path) 0

-- the columns of a place and of the places in it, by at most so many steps into instances
abbrev pub columns_in : ℕ → Design → List ℕ → ℕ → List Column
columns_in n d path k = flat_map (columns_at d) (instances_in n d path k)

-- a list stands in another, from a place on
pub record StandsInList {A : Type 0} (whole : List A) (start : ℕ) (part : List A) : Type 0 where
  pub before : List A
  pub after : List A
  pub parts : whole ≡ before ++ (part ++ after)
  pub long : length before ≡ start

-- how many places a model and its instances have, by at most so many steps into instances
abbrev pub weight_within : ℕ → Design → ℕ → ℕ
weight_within zero d k = 1
weight_within (suc n) d k = 1 + over_insts d (weight_within n d) (insts_of d k)

unfoldable pub weight_of : Design → ℕ → ℕ
weight_of d k = weight_within (length d.models) d k

-- a column of the model at a path or of the instances in it, by its number from there on
pub record IsColumnSpot (d : Design) (path : List ℕ) (k number total : ℕ) : Type 0 where
  pub leads : number_from d d.root path ≡ Some k
  pub sum : start_of d path + number ≡ total
  pub within : number < size_of d k
