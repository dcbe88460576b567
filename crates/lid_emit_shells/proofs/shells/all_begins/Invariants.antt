use Rattle.std.proofs.Common.{◌≡◌, ◌+◌, ℕ, Bool, List, length, Some, slice_get}
use Rattle.lid_emit_shells.specs.Making.{AreBegun}
use Rattle.lid_emit_shells.proofs.shells.all_begins.Given as goal

abbrev pub invariant-loop-v : goal.invariant-loop-v
invariant-loop-v l = record {
  counted : l.v ≡ length l.begins.items + 1;
  each : (i : ℕ) (bits : List Bool) → slice_get l.begins.items i ≡ Some bits → AreBegun l.system (i + 1) bits;
}
