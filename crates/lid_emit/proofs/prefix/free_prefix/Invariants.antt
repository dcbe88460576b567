use Rattle.std.proofs.Common.{◌≤◌, ◌<◌, ◌++◌}
use Rattle.lid_emit.proofs.Counting.{HasRoom}
use Rattle.lid_emit.proofs.prefix.free_prefix.Given as goal

abbrev pub invariant-loop : goal.invariant-loop
invariant-loop l = record {
  some : 0 < l.counter;
  most : l.counter ≤ 15;
  room : HasRoom l.prefix.items l.counter (l.inputs ++ l.outputs);
}
