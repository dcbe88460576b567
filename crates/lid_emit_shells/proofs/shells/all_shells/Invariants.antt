use Rattle.std.proofs.Common.{◌≡◌, ◌+◌, ℕ, length, Some, slice_get}
use Rattle.lid_emit_cells.specs.declared.shell.Shell.{Shell}
use Rattle.lid_emit_shells.specs.Making.{IsMadeShell}
use Rattle.lid_emit_shells.proofs.shells.all_shells.Given as goal

abbrev pub invariant-loop-v : goal.invariant-loop-v
invariant-loop-v l = record {
  counted : l.v ≡ length l.shells.items + 1;
  each : (i : ℕ) (shell : Shell) → slice_get l.shells.items i ≡ Some shell → IsMadeShell l.checked l.system l.lasts (i + 1) shell;
}
