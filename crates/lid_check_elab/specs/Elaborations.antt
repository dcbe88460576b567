-- The columns of a design by their numbers, and what drives each of them.
use Rattle.std.specs.Prelude.{◌≡◌, ℕ, ◌+◌, ◌<◌, List, [], ◌∷◌, ◌++◌, length, map, Some, slice_get, slice_index_or}
use Rattle.std.specs.List.{AllByRecursion}
use Rattle.lid_base.specs.Lists.{Among}
use Rattle.lid_design.specs.declared.Design.{Design}
use Rattle.lid_design.specs.Network.{Driver, from_input, from_latch, from_cover, from_connection}
use Rattle.lid_design.specs.Columns.{Column, column, drivers}
use Rattle.lid_design.specs.Walks.{read_before, IsDriven}
use Rattle.lid_design.specs.Feeds.{read_now}
use Rattle.lid_design.specs.Models.{insts_of, instance_number, number_from}
use Rattle.lid_design.specs.Elaboration.{columns, model_nets}
use Rattle.lid_check_elab.specs.Covers.{cover_in}
use Rattle.lid_check_elab.specs.Numbers.{columns_in, StandsInList}
use Rattle.lid_check_elab.specs.declared.driver.ColumnDriver.{ColumnDriver}
use Rattle.lid_check_elab.specs.declared.driver.ColumnDriver.TheVariants.{Input, Latch, Cover as OfCover, Connection}

-- a driver reads the columns of some numbers
abbrev pub shown_driver : Design → ColumnDriver → Driver ℕ
shown_driver d (Input place) = from_input place
shown_driver d (Latch first input) = from_latch first input
shown_driver d (OfCover model cell inputs) = from_cover (cover_in d model cell) inputs
shown_driver d (Connection other) = from_connection other

-- the columns that a driver reads in the same row
abbrev pub driver_reads : ColumnDriver → List ℕ
driver_reads (Input place) = []
driver_reads (Latch first input) = []
driver_reads (OfCover model cell inputs) = inputs
driver_reads (Connection other) = other ∷ []

-- what gives a bit, with the columns that it reads named otherwise
abbrev pub map_driver : {A B : Type 0} → (A → B) → Driver A → Driver B
map_driver f (from_input j) = from_input j
map_driver f (from_latch first input) = from_latch first (f input)
map_driver f (from_cover cover inputs) = from_cover cover (map f inputs)
map_driver f (from_connection a) = from_connection (f a)

-- the column of a number
abbrev pub column_at : Design → ℕ → Column
column_at d k = slice_index_or (columns d) k (column [] [])

-- column k has one driver, driver k, that reads columns by their numbers
pub record IsDrivenBy (d : Design) (network : List (Driver ℕ)) (k : ℕ) (c : Column) : Type 0 where
  pub driver : Driver ℕ
  pub here : slice_get network k ≡ Some driver
  pub only : drivers d c ≡ map_driver (column_at d) driver ∷ []
  pub below : AllByRecursion (λ a. a < length network) (read_now driver ++ read_before driver)

-- the columns of the model at a path stand one after the other from number `start` on
abbrev pub StartsAt : Design → List ℕ → ℕ → Type 0
StartsAt d path start =
    (k j : ℕ) (net : List ℕ)
    → number_from d d.root path ≡ Some k
    → slice_get (model_nets d k) j ≡ Some net
    → slice_get (columns d) (start + j) ≡ Some (column path net)

-- the columns of instance i of the root and of all instances in it are those from number `start` on to
-- where those of the next instance start, or to the end
pub record HasBlock (d : Design) (starts : List ℕ) (i start : ℕ) : Type 0 where
  pub model : ℕ
  pub names : instance_number d i d.root ≡ Some model
  pub stands : StandsInList (columns d) start (columns_in (length d.models) d (i ∷ []) model)
  pub next : start + length (columns_in (length d.models) d (i ∷ []) model) ≡ slice_index_or starts (i + 1) (length (columns d))

-- the network has the drivers of the columns, in order; each driven column has one number; and the
-- columns of each instance of the root, with those in it, start at the number that is listed for it
pub record IsElaborated (d : Design) (network : List (Driver ℕ)) (starts : List ℕ) : Type 0 where
  pub whole : length network ≡ length (columns d)
  pub each : (k : ℕ) (c : Column) → slice_get (columns d) k ≡ Some c → IsDrivenBy d network k c
  pub every : (c : Column) → IsDriven (drivers d) c → Among c (columns d)
  pub once : (j k : ℕ) (c : Column) → slice_get (columns d) j ≡ Some c → slice_get (columns d) k ≡ Some c → j ≡ k
  pub root : StartsAt d [] 0
  pub insts : length starts ≡ length (insts_of d d.root)
  pub start : (i start : ℕ) → slice_get starts i ≡ Some start → StartsAt d (i ∷ []) start
  pub block : (i start : ℕ) → slice_get starts i ≡ Some start → HasBlock d starts i start
