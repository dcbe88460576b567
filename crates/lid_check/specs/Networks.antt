-- The columns of an accepted design, as they are kept.
use Rattle.std.specs.Prelude.{◌≡◌, ◌<◌, ◌≤◌, ℕ, List, [], length, map}
use Rattle.std.specs.List.{AllByRecursion}
use Rattle.lid_design.specs.declared.Design.{Design}
use Rattle.lid_design.specs.Columns.{column, root_outputs}
use Rattle.lid_design.specs.Feeds.{read_now}
use Rattle.lid_check_digraph.specs.Graphs.{IsOrder}
use Rattle.lid_check_elab.specs.Elaborations.{shown_driver, column_at, IsElaborated}
use Rattle.lid_check.specs.declared.network.Network.{Network}

-- the numbers of the columns of the root's outputs, in order
pub record AreNumbersOf (d : Design) (count : ℕ) (numbers : List ℕ) : Type 0 where
  pub below : AllByRecursion (λ k. k < count) numbers
  pub outputs : map (column_at d) numbers ≡ map (column []) (root_outputs d)

-- the columns by their numbers, an order in which each stands after all that it reads in the same row,
-- and the numbers of the root's outputs
pub record IsNetwork (d : Design) (n : Network) : Type 0 where
  pub elaborated : IsElaborated d (map (shown_driver d) n.columns.drivers) n.columns.starts
  pub few : length n.columns.drivers ≤ 1048576
  pub ordered : IsOrder (map read_now (map (shown_driver d) n.columns.drivers)) n.order
  pub outputs : AreNumbersOf d (length n.columns.drivers) n.outputs
