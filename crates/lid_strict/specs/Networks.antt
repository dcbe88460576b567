-- Networks whose columns are numbers, and their rows.
use Rattle.std.specs.Prelude.{◌<◌, ℕ, Bool, List, length, map, slice_get, slice_index_or, option_to_list}
use Rattle.std.specs.List.{AllByRecursion}
use Rattle.lid_design.specs.Network.{Driver, from_input, Table}
use Rattle.lid_base.specs.Each.{from_each}
use Rattle.lid_design.specs.Walks.{read_before}
use Rattle.lid_design.specs.Feeds.{read_now}

-- what drives a number: the driver at its place
abbrev pub driver_list : List (Driver ℕ) → ℕ → List (Driver ℕ)
driver_list network k = option_to_list (slice_get network k)

-- the driver of a number
abbrev pub driver_at : List (Driver ℕ) → ℕ → Driver ℕ
driver_at network k = slice_index_or network k (from_input 0)

-- the numbers that each number reads in the same row
abbrev pub reads_of : List (Driver ℕ) → List (List ℕ)
reads_of network = map read_now network

-- a row of outputs for each row of a table
abbrev pub rows_at : List ℕ → Table ℕ → ℕ → List (List Bool)
rows_at outs b n = from_each (λ t. map (b t) outs) 0 n

-- what latches read has a number
abbrev pub AreTakenBelow : List (Driver ℕ) → Type 0
AreTakenBelow network = AllByRecursion (λ s. AllByRecursion (λ a. a < length network) (read_before s)) network
