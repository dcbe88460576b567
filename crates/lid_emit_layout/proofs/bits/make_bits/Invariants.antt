use Rattle.std.proofs.Common.{◌≡◌, ℕ, length, slice_get, Some}
use Rattle.lid_emit_cells.specs.declared.station.Bit.{Bit}
use Rattle.lid_emit_shells.specs.Shells.{nets_of}
use Rattle.lid_emit_layout.specs.Bits.{IsBit}
use Rattle.lid_emit_layout.proofs.bits.make_bits.Given as goal

abbrev pub invariant-loop-j : goal.invariant-loop-j
invariant-loop-j l = (length l.bits.items ≡ l.j) × ((j : ℕ) (bit : Bit) → slice_get l.bits.items j ≡ Some bit → IsBit l.system (nets_of l.shells) l.channel l.site j bit)
