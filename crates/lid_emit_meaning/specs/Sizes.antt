-- The size of a wrapped design.
use Rattle.std.specs.Prelude.{◌≡◌, ℕ, ◌+◌, ◌*◌, List, [], ◌++◌, length, min, sum_by, slice_get, slice_index_or}
use Rattle.std.specs.Option.{option_map_or}
use Rattle.lid_design.specs.declared.Design.{Design}
use Rattle.lid_design.specs.declared.Cell.{Cell}
use Rattle.lid_design.specs.declared.Cell.TheVariants.{Names, Latch}
use Rattle.lid_design.specs.Columns.{root_inputs, root_outputs}
use Rattle.lid_base.specs.Each.{from_each}
use Rattle.lid_design.specs.Models.{number_from, IsReached}
use Rattle.lid_design.specs.Loops.{pearls}
use Rattle.lid_design.specs.Elaboration.{instances_in}
use Rattle.lid_stations.specs.declared.placement.Placement.{Placement}
use Rattle.lid_stations.specs.Placements.{Links, station_count}
use Rattle.lid_stations.specs.Stations.{spot_at, channel_at, capacity}

-- for a name, 1 and its length
abbrev pub name_size : List ℕ → ℕ
name_size name = 1 + length name

-- for each data input and output of the root, the size of its name
abbrev pub ports_size : Design → ℕ
ports_size d = sum_by name_size (root_inputs d ++ root_outputs d)

-- for a station its capacity, times 1 and the ports of its channel
abbrev pub station_size : Links → Placement → ℕ → ℕ
station_size l p station = capacity p station * (1 + length (channel_at l (spot_at p.relays station).channel).ports)

-- for so many stations from one on, the size of each
abbrev pub sizes_from : Links → Placement → ℕ → ℕ → ℕ
sizes_from l p station n = sum_by (station_size l p) (from_each (λ j. j) station n)

abbrev pub stations_size : Links → Placement → ℕ
stations_size l p = sizes_from l p 0 (station_count p.relays)

-- 1 for a latch, and for a cover 1, its inputs and its rows
abbrev pub cell_size : Cell → ℕ
cell_size (Names inputs out cover) = 1 + length inputs + length cover.cubes
cell_size (Latch input out kind control init) = 1

-- the latches and covers of a model itself
abbrev pub cells_size : Design → ℕ → ℕ
cells_size d k = option_map_or (λ m. sum_by cell_size m.cells) (slice_get d.models k) 0

-- the latches and covers of a model over all paths in it
abbrev pub cells_size_in : Design → ℕ → ℕ
cells_size_in d k = sum_by (λ i. cells_size d i.model) (instances_in (length d.models) d [] k)

-- for a pearl 1, and its latches and covers over all paths in it
abbrev pub pearl_size : Design → ℕ → ℕ
pearl_size d k = 1 + cells_size_in d k

-- what a function of models gives for the model at a path
abbrev pub at_path : Design → (ℕ → ℕ) → List ℕ → ℕ
at_path d f path = option_map_or f (number_from d d.root path) 0

-- what it gives for the models of all pearls, in all
abbrev pub over_pearls : Design → (ℕ → ℕ) → ℕ
over_pearls d f = sum_by (at_path d f) (pearls d)

abbrev pub pearls_size : Design → ℕ
pearls_size d = over_pearls d (pearl_size d)

unfoldable pub size : Design → Links → Placement → ℕ
size d l p = ports_size d + stations_size l p + pearls_size d

-- serves the body: what a function gives for each reached model, at most 18,446,744,073,709,551,615
abbrev pub AreModelCounts : Design → (ℕ → ℕ) → List ℕ → Type 0
AreModelCounts d f counts = (k : ℕ) → IsReached d k → slice_index_or counts k 0 ≡ min (f k) 18446744073709551615
