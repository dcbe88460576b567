-- Streams: the tokens of a channel in all rows, and the strict output rows of a system.
use Rattle.std.specs.Prelude.{◌≡◌, ◌-◌, ℕ, Bool, List, length, map, Some, slice_get}
use Rattle.lid_cover.specs.Masks.{packed}
use Rattle.lid_design.specs.Network.{Table}
use Rattle.lid_base.specs.Each.{from_each}
use Rattle.lid_system.specs.declared.System.{System}
use Rattle.lid_system.specs.declared.Channel.{Channel}
use Rattle.lid_system.specs.Systems.{Point}
use Rattle.lid_system.specs.Tables.{IsTable, carried, input_bits}

-- the token of a channel in row t: bit j is that of its j-th port
abbrev pub token_at : System → Table Point → Channel → ℕ → ℕ
token_at s b c t = packed (map (b t) (carried s c))

-- the tokens of so many rows
abbrev pub tokens_of : System → Table Point → Channel → ℕ → List ℕ
tokens_of s b c n = from_each (token_at s b c) 0 n

-- these are the tokens of channel number c for the rows: there is a table, and each gives them
pub record IsStream (s : System) (rows : List (List Bool)) (c : ℕ) (tokens : List ℕ) : Type 0 where
  pub some : (b : Table Point) × IsTable s rows b
  pub channel : Channel
  pub is_channel : slice_get s.channels c ≡ Some channel
  pub each : (b : Table Point) → IsTable s rows b → tokens ≡ tokens_of s b channel (length rows)

-- the output row of row t: the bits that the sink, the last node, reads
abbrev pub output_row : System → Table Point → ℕ → List Bool
output_row s b t = input_bits s b (length s.nodes - 1) t

-- these are the strict output rows for the rows: there is a table, and each gives them
pub record IsOutput (s : System) (rows outs : List (List Bool)) : Type 0 where
  pub some : (b : Table Point) × IsTable s rows b
  pub each : (b : Table Point) → IsTable s rows b → outs ≡ from_each (output_row s b) 0 (length rows)
