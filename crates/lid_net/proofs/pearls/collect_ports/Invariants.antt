use Rattle.std.proofs.Common.{◌≡◌, ℕ, Some, slice_get, length}
use Rattle.lid_design.specs.Elaboration.{columns}
use Rattle.lid_net.specs.declared.ports.ShellPorts.{ShellPorts}
use Rattle.lid_net.specs.PearlParts.{AreShellPorts}
use Rattle.lid_net.proofs.pearls.collect_ports.Given as goal

abbrev pub invariant-loop-pearl : goal.invariant-loop-pearl
invariant-loop-pearl l = record {
  long : length l.ports.items ≡ l.pearl;
  each : (i : ℕ) (shell : ShellPorts) → slice_get l.ports.items i ≡ Some shell → AreShellPorts l.checked (length (columns l.checked)) i shell;
}
