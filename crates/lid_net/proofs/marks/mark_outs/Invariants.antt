use Rattle.std.proofs.Common.{◌≡◌, length, drop}
use Rattle.lid_net.specs.Marks.{marked_from}
use Rattle.lid_net.proofs.marks.mark_outs.Given as goal

abbrev pub invariant-loop-place : goal.invariant-loop-place
invariant-loop-place l = record {
  size : length l.origins ≡ length l.fn.origins;
  left : marked_from l.node l.place (drop l.place l.outs) l.origins ≡ marked_from l.node 0 l.outs l.fn.origins;
}
