-- The elaboration of a design: all instances of its models by their paths, the columns in order, and
-- what is counted over all instances.
use Rattle.std.specs.Prelude.{ℕ, zero, suc, ◌+◌, max, List, [], ◌∷◌, length, map, flat_map, sum_by, count_by, Bool, true, false, slice_get}
use Rattle.std.specs.Option.{option_map_or}
use Rattle.std.specs.List.{enumerate_from}
use Rattle.lid_design.specs.declared.Design.{Design}
use Rattle.lid_design.specs.declared.Cell.{Cell}
use Rattle.lid_design.specs.declared.Cell.TheVariants.{Names, Latch}
use Rattle.lid_design.specs.declared.Init.{Init}
use Rattle.lid_design.specs.declared.Init.TheVariants.{Zero, One, DontCare, Unknown}
use Rattle.lid_design.specs.Columns.{Column, column}
use Rattle.lid_design.specs.Models.{nets, insts_of, number_named}

-- an instance of the elaboration: its path, and the number of its model. The root is one, with the
-- empty path
pub record Instance : Type 0 where
  pub path : List ℕ
  pub model : ℕ

abbrev pub instance : List ℕ → ℕ → Instance
instance path k = record { path = path; model = k }

-- an instance of model k and all in it, by at most so many steps into instances: it stands before
-- those in it, and these stand in the order of the model's instances. So the paths, read from the
-- root's instance numbers on, are in lexicographic order
abbrev pub instances_in : ℕ → Design → List ℕ → ℕ → List Instance
instances_in zero d path k = instance path k ∷ []
instances_in (suc n) d path k =
    instance path k
    ∷ flat_map (λ p. option_map_or (instances_in n d (p.0 ∷ path)) (number_named d p.1.model) []) (enumerate_from 0 (insts_of d k))

-- all instances. Where no model reaches itself, no chain of instances is as long as the list of
-- models
unfoldable pub instances : Design → List Instance
instances d = instances_in (length d.models) d [] d.root

-- the nets of a model, by the model's number
abbrev pub model_nets : Design → ℕ → List (List ℕ)
model_nets d k = option_map_or (nets d) (slice_get d.models k) []

-- the columns of an instance, in the order in which the names first appear in its model
abbrev pub columns_at : Design → Instance → List Column
columns_at d p = map (column p.path) (model_nets d p.model)

-- all columns in order
unfoldable pub columns : Design → List Column
columns d = flat_map (columns_at d) (instances d)

-- the covers, latches and instances of a model
abbrev pub own_cell_count : Design → ℕ → ℕ
own_cell_count d k = option_map_or (λ m. length m.cells + length m.insts) (slice_get d.models k) 0

abbrev pub is_latch : Cell → Bool
is_latch (Names inputs out cover) = false
is_latch (Latch input out kind control init) = true

-- a latch whose first bit was left open; it begins at 0
abbrev pub is_open : Init → Bool
is_open Zero = false
is_open One = false
is_open DontCare = true
is_open Unknown = true

abbrev pub is_defaulted : Cell → Bool
is_defaulted (Names inputs out cover) = false
is_defaulted (Latch input out kind control init) = is_open init

-- how many cells of a kind a model has
abbrev pub count_in : (Cell → Bool) → Design → ℕ → ℕ
count_in p d k = option_map_or (λ m. count_by p m.cells) (slice_get d.models k) 0

-- what is counted in the models, over all instances
abbrev pub over_instances : (Design → ℕ → ℕ) → Design → ℕ
over_instances f d = sum_by (λ p. f d p.model) (instances d)

-- the covers, latches and instances over all paths
unfoldable pub count_cells : Design → ℕ
count_cells d = over_instances own_cell_count d

-- the columns
unfoldable pub count_nets : Design → ℕ
count_nets d = over_instances (λ d k. length (model_nets d k)) d

unfoldable pub count_latches : Design → ℕ
count_latches d = over_instances (count_in is_latch) d

unfoldable pub count_defaulted : Design → ℕ
count_defaulted d = over_instances (count_in is_defaulted) d

-- the greatest of a list of numbers, and 0 of none
abbrev pub greatest : List ℕ → ℕ
greatest [] = 0
greatest (n ∷ ns) = max n (greatest ns)

-- the length of the longest chain of instances from the root
unfoldable pub depth : Design → ℕ
depth d = greatest (map (λ p. length p.path) (instances d))
