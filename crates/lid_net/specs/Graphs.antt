-- The system graph of a design: the inputs of its nodes, what they are led back to, and the channels. All of
-- this is said of the design alone.
use Rattle.std.specs.Prelude.{◌≡◌, ◌↔◌, ◌==◌, if◌then◌else◌, ℕ, zero, suc, List, [], length, map, flat_map, reverse, slice_get}
use Rattle.std.specs.Option.{option_map_or}
use Rattle.lid_base.specs.Lists.{Among}
use Rattle.lid_cover.specs.declared.Cover.{Cover}
use Rattle.lid_cover.specs.Cover.{cover_value}
use Rattle.lid_design.specs.declared.Design.{Design}
use Rattle.lid_design.specs.Network.{Driver, from_cover}
use Rattle.lid_design.specs.Columns.{Column, column, model_at, data_inputs, drivers, root_outputs}
use Rattle.lid_design.specs.Loops.{pearls}
use Rattle.lid_system.specs.declared.Channel.{Channel}
use Rattle.lid_net_law.specs.Ports.{IsPort, IsNoPort, IsPassedOn}
use Rattle.lid_net_channels.specs.declared.reads.Read.{Read}
use Rattle.lid_net_channels.specs.Reads.{AreAscending}
use Rattle.lid_net_channels.specs.Pieces.{reads_in, AreCut}
use Rattle.lid_net.specs.declared.origin.Origin.{Origin}
use Rattle.lid_net.specs.declared.origin.Origin.TheVariants.{Const, Port}

-- the columns of the data inputs of the model at a path
abbrev pub inputs_at : Design → List ℕ → List Column
inputs_at d path = option_map_or (λ m. map (column path) (data_inputs d m)) (model_at d path) []

-- the inputs of a node: those of a shell are its model's data inputs, and those of the sink, which comes
-- after the shells, are the root's outputs
unfoldable pub inputs_of : Design → ℕ → List Column
inputs_of d zero = []
inputs_of d (suc i) =
    if i == length (pearls d)
    then map (column []) (root_outputs d)
    else option_map_or (inputs_at d) (slice_get (pearls d) i) []

-- so many steps back from a column is a port, or a constant; a step leads over a binding or a buffer, and
-- none leads past a port
abbrev pub LeadsIn : Design → ℕ → Column → Origin → Type 0
LeadsIn d zero c (Port node place) = IsPort d c node place
LeadsIn d zero c (Const bit) =
    IsNoPort d c
    × (cover : Cover)
    × Among {A = Driver Column} (from_cover cover []) (drivers d c)
    × (cover_value cover [] ≡ bit)
LeadsIn d (suc n) c o = IsNoPort d c × (a : Column) × IsPassedOn d a c × LeadsIn d n a o

abbrev pub LeadsTo : Design → Column → Origin → Type 0
LeadsTo d c o = (n : ℕ) × LeadsIn d n c o

-- a node reads a port of another where any of its inputs leads back to it
abbrev pub IsReadBy : Design → Read → Type 0
IsReadBy d r = (c : Column) × Among c (inputs_of d r.to) × LeadsTo d c (Port r.from r.port)

-- the channels of a design: they carry each port that a node reads, once for each such node and in order,
-- and are cut into pieces of 31, of which the last of two nodes may be shorter
pub record IsGraphOf (d : Design) (channels : List Channel) : Type 0 where
  pub reads : (r : Read) → Among r (flat_map reads_in channels) ↔ IsReadBy d r
  pub ascending : AreAscending (flat_map reads_in channels)
  pub cut : AreCut (reverse channels)
