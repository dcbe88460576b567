use Rattle.std.proofs.Common.{◌≡◌, length, drop}
use Rattle.lid_emit_shells.specs.Filling.{passed}
use Rattle.lid_emit_shells.proofs.nets.pass_on.Given as goal

abbrev pub invariant-loop-c : goal.invariant-loop-c
invariant-loop-c l = record {
  kept : length l.wires.items ≡ length l.fn.wires.items;
  left : passed (drop l.c-index l.covers) l.wires.items ≡ passed l.covers l.fn.wires.items;
}
