-- Setups: all that a run depends on, beside the order of its steps and who is held.
use Rattle.std.specs.Prelude.{◌≡◌, ℕ, ◌≤◌, Bool, List, length, Some, slice_get}
use Rattle.std.specs.List.{AllByRecursion}
use Rattle.lid_design.specs.Network.{Table}
use Rattle.lid_system.specs.declared.System.{System}
use Rattle.lid_system.specs.declared.Node.TheVariants.{Source}
use Rattle.lid_system.specs.Systems.{Point, IsWellFormed}
use Rattle.lid_system.specs.Tables.{IsTable}
use Rattle.lid_stations.specs.declared.placement.Placement.{Placement}
use Rattle.lid_stations.specs.Placements.{Fits}

-- a system with its stations, all input rows, and their table
pub record Setup : Type 0 where
  pub system : System
  pub placement : Placement
  pub input : List (List Bool)
  pub table : Table Point

-- a row has the width of the source
abbrev pub IsInputRow : System → List Bool → Type 0
IsInputRow s row = (columns : List (List ℕ)) → slice_get s.nodes 0 ≡ Some (Source columns) → length row ≡ length columns

-- the rules of setups: at most a million rows, each as wide as the source
pub record IsSetup (x : Setup) : Type 0 where
  pub system : IsWellFormed x.system
  pub fits : Fits x.system x.placement
  pub few : length x.input ≤ 1000000
  pub wide : AllByRecursion (IsInputRow x.system) x.input
  pub table : IsTable x.system x.input x.table
