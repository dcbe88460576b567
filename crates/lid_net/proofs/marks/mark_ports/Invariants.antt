use Rattle.std.proofs.Common.{◌≡◌, ◌+◌, length, drop, map}
use Rattle.lid_net.specs.Marks.{outs_of, marked_all}
use Rattle.lid_net.proofs.marks.mark_ports.Given as goal

abbrev pub invariant-loop-i : goal.invariant-loop-i
invariant-loop-i l = record {
  size : length l.origins ≡ length l.fn.origins;
  left : marked_all (l.i + 1) (map outs_of (drop l.i l.ports)) l.origins ≡ marked_all 1 (map outs_of l.ports) l.fn.origins;
}
