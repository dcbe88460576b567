use Rattle.std.proofs.Common.{◌≡◌, ◌++◌, drop}
use Rattle.std.specs.List.{flat_map}
use Rattle.lid_net.specs.Reads.{read_at}
use Rattle.lid_net.proofs.collect.push_reads.Given as goal

abbrev pub invariant-loop-number : goal.invariant-loop-number
invariant-loop-number l = l.reads.items ++ flat_map (read_at l.origins l.to) (drop l.number-index l.ins) ≡ l.fn.reads.items ++ flat_map (read_at l.origins l.to) l.ins
