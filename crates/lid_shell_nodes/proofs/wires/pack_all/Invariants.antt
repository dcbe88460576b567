use Rattle.std.proofs.Common.{◌≡◌, length, map, take}
use Rattle.lid_shell_nodes.specs.Inside.{token_of_bits}
use Rattle.lid_shell_nodes.proofs.wires.pack_all.Given as goal

abbrev pub invariant-loop-i : goal.invariant-loop-i
invariant-loop-i l = (length l.into ≡ length l.ports) × (take l.i l.into ≡ map (token_of_bits l.bits) (take l.i l.ports))
