use Rattle.std.proofs.Common.{◌≡◌, ℕ, Some, length, slice_get}
use Rattle.lid_check_elab.specs.Numbers.{offset_of}
use Rattle.lid_check_elab.proofs.sizes.offsets_of.Given as goal

abbrev pub invariant-loop-inst : goal.invariant-loop-inst
invariant-loop-inst l = record {
  offset : l.offset ≡ offset_of l.judged l.model l.inst;
  few : length l.offsets.items ≡ l.inst;
  each : (i o : ℕ) → slice_get l.offsets.items i ≡ Some o → o ≡ offset_of l.judged l.model i;
}
