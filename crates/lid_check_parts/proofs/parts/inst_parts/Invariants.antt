use Rattle.std.proofs.Common.{◌≡◌, ℕ, Some, length, slice_get}
use Rattle.lid_check_parts.specs.declared.part.PearlPart.{PearlPart}
use Rattle.lid_check_parts.specs.Parts.{IsNetworkPart}
use Rattle.lid_check_parts.specs.PearlParts.{IsPearlPart}
use Rattle.lid_check_parts.proofs.parts.inst_parts.Given as goal

abbrev pub invariant-loop-i : goal.invariant-loop-i
invariant-loop-i l = record {
  count : length l.parts.items ≡ l.i;
  each : (p : ℕ) (part : PearlPart) → slice_get l.parts.items p ≡ Some part → IsPearlPart l.columns.design p part × IsNetworkPart l.columns.drivers part;
}
