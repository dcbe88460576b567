-- What runs are made of.
use Rattle.std.specs.Prelude.{◌≡◌, ℕ, ◌≤◌, Bool, List, length, Some, slice_get}
use Rattle.std.specs.List.{AllByRecursion}
use Rattle.lid_system.specs.declared.System.{System}
use Rattle.lid_system.specs.declared.Node.TheVariants.{Source}
use Rattle.lid_system.specs.Systems.{IsWellFormed}
use Rattle.lid_stations.specs.declared.placement.Placement.{Placement}
use Rattle.lid_stations.specs.Placements.{Fits}

-- a row has the width of the source
abbrev pub IsSourceWide : System → List Bool → Type 0
IsSourceWide s row = (columns : List (List ℕ)) → slice_get s.nodes 0 ≡ Some (Source columns) → length row ≡ length columns

-- a system with stations that fit it, and few rows as wide as its source
pub record IsFittingRun (s : System) (p : Placement) (rows : List (List Bool)) : Type 0 where
  pub system : IsWellFormed s
  pub fits : Fits s p
  pub few : length rows ≤ 1000000
  pub wide : AllByRecursion (IsSourceWide s) rows
