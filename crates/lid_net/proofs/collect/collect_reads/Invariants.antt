use Rattle.std.proofs.Common.{◌≡◌, ◌++◌, ◌+◌, ◌∷◌, [], drop, map}
use Rattle.lid_net.specs.Marks.{ins_of}
use Rattle.lid_net.specs.Reads.{all_reads}
use Rattle.lid_net.proofs.collect.collect_reads.Given as goal

abbrev pub invariant-loop-i : goal.invariant-loop-i
invariant-loop-i l = l.reads.items ++ all_reads l.origins (l.i + 1) (map ins_of (drop l.i l.ports) ++ l.outputs ∷ []) ≡ all_reads l.origins 1 (map ins_of l.ports ++ l.outputs ∷ [])
