-- Channels as pieces of the ports that a node reads of another.
use Rattle.std.specs.Prelude.{◌≡◌, ◌<◌, ◌≤◌, ◌+◌, ◌==◌, ℕ, Bool, true, false, ◌&&◌, List, [], ◌∷◌, length, map, flat_map, reverse, ⊤}
use Rattle.lid_system.specs.declared.Channel.{Channel}
use Rattle.lid_net_channels.specs.declared.reads.Read.{Read}

-- what the node to which a channel leads reads by it
abbrev pub read_at : Channel → ℕ → Read
read_at c port = record { from = c.from; to = c.to; port = port }

abbrev pub reads_in : Channel → List Read
reads_in c = map (read_at c) c.ports

-- whether two channels join the same nodes
abbrev pub is_beside : Channel → Channel → Bool
is_beside c next = (c.from == next.from) && (c.to == next.to)

-- the number of a piece after another, which joins the same nodes and is full, or other nodes
abbrev pub IsPieceAfter : Bool → Channel → Channel → Type 0
IsPieceAfter true before c = (length before.ports ≡ 31) × (c.piece ≡ before.piece + 1)
IsPieceAfter false before c = c.piece ≡ 0

-- the channel has the number of its piece, after those before it, the last of which comes first
abbrev pub IsNextPiece : Channel → List Channel → Type 0
IsNextPiece c [] = c.piece ≡ 0
IsNextPiece c (before ∷ earlier) = IsPieceAfter (is_beside before c) before c

-- channels, the last of them first, are pieces of 1 to 31 ports, of which only the last of two nodes is not
-- full
abbrev pub AreCut : List Channel → Type 0
AreCut [] = ⊤
AreCut (c ∷ before) = (0 < length c.ports) × (length c.ports ≤ 31) × IsNextPiece c before × AreCut before

-- the channels of some reads: they carry these in order, cut into pieces
pub record AreChannelsOf (reads : List Read) (channels : List Channel) : Type 0 where
  pub carry : flat_map reads_in channels ≡ reads
  pub cut : AreCut (reverse channels)
