-- For the code: how reads are cut into channels, read by read, the last first.
use Rattle.std.specs.Prelude.{◌<◌, ◌≤◌, ◌+◌, ◌==◌, nat_lt, ℕ, Bool, false, ◌&&◌, if◌then◌else◌, List, [], ◌∷◌, ◌++◌, length, ⊤, Option, Some, None}
use Rattle.lid_system.specs.declared.Channel.{Channel}
use Rattle.lid_net_channels.specs.declared.reads.Read.{Read}

-- a channel for the first port of a piece
abbrev pub new_channel : Read → ℕ → Channel
new_channel r piece = record { from = r.from; to = r.to; piece = piece; ports = r.port ∷ [] }

abbrev pub with_port : Channel → Read → Channel
with_port c r = record { from = c.from; to = c.to; piece = c.piece; ports = c.ports ++ r.port ∷ [] }

-- whether a channel joins the nodes of a read
abbrev pub is_between : Channel → Read → Bool
is_between c r = (c.from == r.from) && (c.to == r.to)

-- the piece that a read begins after these channels, the last first; none where the last has room
abbrev pub piece_for : Read → List Channel → Option ℕ
piece_for r [] = Some 0
piece_for r (c ∷ before) =
    if is_between c r then (if nat_lt (length c.ports) 31 then None else Some (c.piece + 1)) else Some 0

abbrev pub extended : Read → List Channel → List Channel
extended r [] = []
extended r (c ∷ before) = with_port c r ∷ before

abbrev pub placed_read : Read → List Channel → Option ℕ → List Channel
placed_read r channels None = extended r channels
placed_read r channels (Some piece) = new_channel r piece ∷ channels

-- the channels with one read more, the last first
abbrev pub grown : Read → List Channel → List Channel
grown r channels = placed_read r channels (piece_for r channels)

-- the channels of reads; the last come first, of both
abbrev pub cut_back : List Read → List Channel
cut_back [] = []
cut_back (r ∷ earlier) = grown r (cut_back earlier)

-- how many ports the last channel has
abbrev pub last_width : List Channel → ℕ
last_width [] = 0
last_width (c ∷ before) = length c.ports

-- whether the last of some reads is between the nodes of another
abbrev pub joins : List Read → Read → Bool
joins [] r = false
joins (last ∷ earlier) r = (last.from == r.from) && (last.to == r.to)

-- channels, the last first, are no more than a system may have, and the last has no greater piece than
-- there are channels before it
abbrev pub ArePieced : List Channel → Type 0
ArePieced [] = ⊤
ArePieced (c ∷ before) = (c.piece ≤ length before) × (length before < 16384)
