-- How a node reads tokens and makes tokens, and what is known of the fields of one. These serve loops and
-- invariants.
use Rattle.std.specs.Prelude.{◌≡◌, ℕ, ◌<◌, Bool, List, length, map, slice_index_or, ⊤}
use Rattle.std.specs.List.{AllByRecursion}
use Rattle.std.specs.List.Sorted.{IsNonDecreasingBy}
use Rattle.lid_cover.specs.Masks.{packed}
use Rattle.lid_strict_engine.specs.Rows.{bit_at}
use Rattle.lid_strict_engine.specs.Truth.{is_set}
use Rattle.lid_system.specs.declared.Channel.{Channel}
use Rattle.lid_system.specs.declared.InBit.{InBit}
use Rattle.lid_system.specs.declared.InBit.TheVariants as bit
use Rattle.lid_shell_nodes.specs.declared.wires.InputRead.{InputRead}
use Rattle.lid_shell_nodes.specs.declared.wires.InputRead.TheVariants.{Const, Bit}
use Rattle.lid_shell_nodes.specs.Wiring.{IsReadOf, IsPackOf}

-- the bit that an input has, where these tokens are taken
abbrev pub bit_read : List ℕ → InputRead → Bool
bit_read taken (Const value) = value
bit_read taken (Bit place b) = is_set (slice_index_or taken place 0) b

-- the token of some ports, where each port has a bit
abbrev pub token_of_bits : List Bool → List ℕ → ℕ
token_of_bits bits ports = packed (map (bit_at bits) ports)

-- channels stand in the order of where they come from
abbrev pub StandByOrigin : List Channel → Type 0
StandByOrigin channels = IsNonDecreasingBy (λ c. c.from) channels

-- what an input reads, by the places of channels
abbrev pub read_in : List ℕ → InBit → InputRead
read_in places (bit.Const value) = Const value
read_in places (bit.Port chan b) = Bit (slice_index_or places chan 0) b

-- an input reads one of so many channels
abbrev pub ReadsBelow : ℕ → InBit → Type 0
ReadsBelow many (bit.Const value) = ⊤
ReadsBelow many (bit.Port chan b) = chan < many

-- what is known of the fields of a shell, whose pearl has so many inputs and outputs
pub record AreShellFields (ins outs taken : ℕ) (reads : List InputRead) (ports : List (List ℕ)) (inputs outputs : List Bool) : Type 0 where
  pub wide : length reads ≡ ins
  pub reading : AllByRecursion (IsReadOf taken) reads
  pub packing : AllByRecursion (IsPackOf outs) ports
  pub room : length inputs ≡ ins
  pub outs_room : length outputs ≡ outs
