use Rattle.std.proofs.Common.{◌≡◌, length}
use Rattle.lid_shell_laws.specs.Setups.{Setup}
use Rattle.lid_walk.specs.Inside.{HasFirsts, BeginsWith}
use Rattle.lid_walk.proofs.firsts.write_nodes.Given as goal

abbrev pub invariant-loop-node : goal.invariant-loop-node
invariant-loop-node l = record {
  many : length l.firsts ≡ length l.fn.firsts;
  has : (m : Setup) → BeginsWith m l.placed l.row → HasFirsts m 0 l.fn.firsts → HasFirsts m l.node l.firsts;
}
