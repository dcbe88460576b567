-- Scopes of the elaboration, which are the root and the instances in it, as they are worked through one
-- after the other. These definitions serve the loops that place drivers.
use Rattle.std.specs.Prelude.{◌≡◌, ℕ, ◌+◌, ◌<◌, ⊤, List, [], ◌∷◌, ◌++◌, length, map, Option, Some, None, slice_get}
use Rattle.std.specs.Option.{option_map_or}
use Rattle.std.specs.List.{AllByRecursion}
use Rattle.lid_design.specs.declared.Design.{Design}
use Rattle.lid_design.specs.declared.Inst.{Inst}
use Rattle.lid_design.specs.Network.{Driver, from_input}
use Rattle.lid_design.specs.Columns.{Column, drivers}
use Rattle.lid_design.specs.Walks.{read_before}
use Rattle.lid_design.specs.Feeds.{read_now}
use Rattle.lid_design.specs.Models.{insts_of, number_from, data_inputs_of}
use Rattle.lid_design.specs.Elaboration.{columns}
use Rattle.lid_check_elab.specs.Elaborations.{map_driver, column_at}
use Rattle.lid_check_elab.specs.Numbers.{size_of, start_of, weight_of}
use Rattle.lid_check_drivers.specs.Locals.{actual_for}
use Rattle.lid_check_elab.specs.Templates.{shown_local, net_place, placed_driver, IsSmallLocal}
use Rattle.lid_check_elab.specs.declared.template.LocalDriver.{LocalDriver}
use Rattle.lid_check_elab.specs.declared.placing.Scope.{Scope}
use Rattle.lid_check_elab.specs.declared.placing.Around.{Around}

-- a driver is the one driver of a column
pub record IsOnlyDriver (d : Design) (c : Column) (driver : Driver ℕ) : Type 0 where
  pub only : drivers d c ≡ map_driver (column_at d) driver ∷ []
  pub below : AllByRecursion (λ a. a < length (columns d)) (read_now driver ++ read_before driver)

-- the network has the drivers of the first columns
abbrev pub ArePlaced : Design → List (Driver ℕ) → Type 0
ArePlaced d network = (n : ℕ) (c : Column) (driver : Driver ℕ) → slice_get (columns d) n ≡ Some c → slice_get network n ≡ Some driver → IsOnlyDriver d c driver

-- the scope around an instance
abbrev pub IsAround : Design → List ℕ → Option Around → Type 0
IsAround d path None = path ≡ []
IsAround d path (Some a) = (up : List ℕ) × (path ≡ a.inst ∷ up) × (number_from d d.root up ≡ Some a.model) × (start_of d up ≡ a.start)

-- a scope stands at a path
pub record IsScopeAt (d : Design) (path : List ℕ) (p : Scope) : Type 0 where
  pub leads : number_from d d.root path ≡ Some p.model
  pub start : start_of d path ≡ p.start
  pub outer : IsAround d path p.around

-- the columns of some scopes, and of the scopes in them, are those from a number on
abbrev pub AreNext : Design → ℕ → List Scope → Type 0
AreNext d n [] = n ≡ length (columns d)
AreNext d n (p ∷ ps) = ((path : List ℕ) × IsScopeAt d path p) × (p.start ≡ n) × AreNext d (n + size_of d p.model) ps

-- how many scopes there are in some scopes, themselves counted
abbrev pub weights : Design → List Scope → ℕ
weights d [] = 0
weights d (p ∷ ps) = weight_of d p.model + weights d ps

-- the driver of a pick
abbrev pub picked_driver : Design → ℕ → List ℕ → Option (ℕ × List ℕ) → List LocalDriver → ℕ → Driver ℕ
picked_driver d start offsets around all pick = option_map_or (λ x. placed_driver start offsets around (shown_local d x)) (slice_get all pick) (from_input 0)

-- the path leads into an instance: the nets of the model around it start at the first number, and its
-- data inputs are bound to those at the second numbers
pub record StandsIn (d : Design) (path : List ℕ) (k : ℕ) (start : ℕ) (actuals : List ℕ) : Type 0 where
  pub up : List ℕ
  pub i : ℕ
  pub around : ℕ
  pub inst : Inst
  pub is_path : path ≡ i ∷ up
  pub leads : number_from d d.root up ≡ Some around
  pub at : slice_get (insts_of d around) i ≡ Some inst
  pub is_start : start ≡ start_of d up
  pub is_actuals : actuals ≡ map (λ formal. net_place d around (actual_for inst formal)) (data_inputs_of d k)

-- what stands around a path, as drivers are placed
abbrev pub IsOuter : Design → List ℕ → ℕ → Option (ℕ × List ℕ) → Type 0
IsOuter d path k None = path ≡ []
IsOuter d path k (Some around) = StandsIn d path k around.0 around.1

-- what a pick stands for has small numbers
abbrev pub IsSmallAt : Design → List ℕ → Option (ℕ × List ℕ) → Option LocalDriver → Type 0
IsSmallAt d offsets around None = ⊤
IsSmallAt d offsets around (Some x) = IsSmallLocal offsets around (shown_local d x)
