use Rattle.std.proofs.Common.{◌≡◌, ◌++◌, map, drop}
use Rattle.lid_shell_nodes.specs.Inside.{read_in}
use Rattle.lid_shell_nodes.proofs.wires.reads_of.Given as goal

abbrev pub invariant-loop-input : goal.invariant-loop-input
invariant-loop-input l = l.reads.items ++ map (read_in l.places) (drop l.input-index l.ins) ≡ map (read_in l.places) l.ins
