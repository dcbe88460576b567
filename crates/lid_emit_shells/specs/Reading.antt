-- The last stations of channels, and the wires that inputs read.
use Rattle.std.specs.Prelude.{⊤, ℕ, ◌+◌, ◌<◌, List, [], ◌∷◌, slice_index_or}
use Rattle.lid_system.specs.declared.InBit.{InBit}
use Rattle.lid_system.specs.declared.InBit.TheVariants.{Const, Port}
use Rattle.lid_emit_cells.specs.declared.wire.Wire.{Wire}
use Rattle.lid_emit_cells.specs.declared.wire.Wire.TheVariants.{Steady, Place}

-- the last stations of channels with so many relay stations, where the first station has a number
abbrev pub lasts_from : ℕ → List ℕ → List ℕ
lasts_from first [] = []
lasts_from first (k ∷ ks) = (first + k) ∷ lasts_from (first + k + 1) ks

-- an input reads one of so many channels, or a constant
abbrev pub ReadsBelow : ℕ → InBit → Type 0
ReadsBelow channels (Const bit) = ⊤
ReadsBelow channels (Port chan bit) = chan < channels

-- the wire that an input reads, by the last stations of channels
abbrev pub wire_by : List ℕ → InBit → Wire
wire_by lasts (Const bit) = Steady bit
wire_by lasts (Port chan bit) = Place (slice_index_or lasts chan 0) 0 bit
