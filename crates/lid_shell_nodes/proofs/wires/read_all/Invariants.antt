use Rattle.std.proofs.Common.{◌≡◌, length, map, take}
use Rattle.lid_shell_nodes.specs.Inside.{bit_read}
use Rattle.lid_shell_nodes.proofs.wires.read_all.Given as goal

abbrev pub invariant-loop-i : goal.invariant-loop-i
invariant-loop-i l = (length l.bits ≡ length l.reads) × (take l.i l.bits ≡ map (bit_read l.taken) (take l.i l.reads))
