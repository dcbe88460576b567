-- The bits of a station's tokens.
use Rattle.std.specs.Prelude.{◌≡◌, ℕ, zero, suc, ◌-◌, false, List, length, Some, slice_get, slice_index_or}
use Rattle.lid_system.specs.declared.System.{System}
use Rattle.lid_system.specs.declared.Channel.{Channel}
use Rattle.lid_emit_circuit.specs.Wires.{Wire, place}
use Rattle.lid_emit_system.specs.Nets.{NetWires}
use Rattle.lid_emit_system.specs.Wrapping.{first_put}
use Rattle.lid_emit_cells.specs.declared.station.Bit.{Bit}
use Rattle.lid_emit_cells.specs.Shown.{wire_of}
use Rattle.lid_emit_layout.specs.declared.sites.Site.{Site}

-- bit j of what is put in a station at a place of a channel
abbrev pub put_on : System → NetWires → Channel → ℕ → ℕ → ℕ → Wire
put_on s n c station zero j = first_put s n c j
put_on s n c station (suc i) j = place (station - 1) 0 j

-- bit j of the tokens of a station of a channel
pub record IsBit (s : System) (n : NetWires) (c : Channel) (site : Site) (j : ℕ) (bit : Bit) : Type 0 where
  pub begins : slice_index_or (n.begins site.filler) (slice_index_or c.ports j 0) false ≡ bit.begins
  pub put : put_on s n c site.station site.place j ≡ wire_of bit.put

-- all bits of them
pub record AreBits (s : System) (n : NetWires) (c : Channel) (site : Site) (bits : List Bit) : Type 0 where
  pub width : length c.ports ≡ length bits
  pub each : (j : ℕ) (bit : Bit) → slice_get bits j ≡ Some bit → IsBit s n c site j bit
