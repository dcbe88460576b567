-- The drivers of a part with numbers counted from its first, and the latches and covers that they make in
-- an order. These definitions serve the functions that make flat parts.
use Rattle.std.specs.Prelude.{◌+◌, ◌-◌, nat_lt, ℕ, true, if◌then◌else◌, List, [], ◌∷◌, map, flat_map}
use Rattle.std.specs.List.{range_with_len}
use Rattle.lid_cover.specs.declared.Cover.{Cover}
use Rattle.lid_design.specs.declared.Design.{Design}
use Rattle.lid_design.specs.declared.FlatLatch.{FlatLatch}
use Rattle.lid_design.specs.declared.FlatCover.{FlatCover}
use Rattle.lid_design.specs.Network.{Driver, from_input, from_latch, from_cover, from_connection}
use Rattle.lid_check_elab.specs.declared.driver.ColumnDriver.{ColumnDriver}
use Rattle.lid_check_elab.specs.declared.driver.ColumnDriver.TheVariants.{Input, Latch, Cover as OfCover, Connection}
use Rattle.lid_check_elab.specs.Elaborations.{shown_driver}
use Rattle.lid_check_parts.specs.Parts.{driver_at}
use Rattle.lid_check_parts.specs.declared.part.PearlPart.{PearlPart}

-- the cover that gives its one input
abbrev pub buffer : Cover
buffer = record { inputs = 1; on = true; cubes = record { care = 1; value = 1 } ∷ [] }

-- a driver with the numbers that it reads counted from `start` on
abbrev pub counted_from : ℕ → ColumnDriver → ColumnDriver
counted_from start (Input place) = Input place
counted_from start (Latch first input) = Latch first (input - start)
counted_from start (OfCover model cell inputs) = OfCover model cell (map (λ a. a - start) inputs)
counted_from start (Connection other) = Connection (other - start)

-- the driver of net k of a part
abbrev pub inner_driver : List ColumnDriver → PearlPart → ℕ → ColumnDriver
inner_driver drivers part k = if nat_lt k part.inputs then Input k else counted_from part.start (driver_at drivers (part.start + k))

-- the drivers of the nets of a part
abbrev pub inner_drivers : List ColumnDriver → PearlPart → List ColumnDriver
inner_drivers drivers part = map (inner_driver drivers part) (range_with_len 0 part.nets)

-- the latch that gives net k its bit
abbrev pub latches_of : ℕ → Driver ℕ → List FlatLatch
latches_of k (from_input j) = []
latches_of k (from_latch first input) = record { input = input; out = k; init = first } ∷ []
latches_of k (from_cover cover inputs) = []
latches_of k (from_connection other) = []

-- the cover that gives net k its bit, which is a buffer where a connection does
abbrev pub driver_covers : ℕ → Driver ℕ → List FlatCover
driver_covers k (from_input j) = []
driver_covers k (from_latch first input) = []
driver_covers k (from_cover cover inputs) = record { ins = inputs; out = k; cover = cover } ∷ []
driver_covers k (from_connection other) = record { ins = other ∷ []; out = k; cover = buffer } ∷ []

-- those of the nets of an order, one after the other
abbrev pub latches_in : Design → List ColumnDriver → List ℕ → List FlatLatch
latches_in d inner order = flat_map (λ k. latches_of k (shown_driver d (driver_at inner k))) order

abbrev pub network_covers : Design → List ColumnDriver → List ℕ → List FlatCover
network_covers d inner order = flat_map (λ k. driver_covers k (shown_driver d (driver_at inner k))) order
