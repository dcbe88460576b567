use Rattle.std.proofs.Common.{◌≡◌, length, drop}
use Rattle.lid_emit_shells.specs.Filling.{overwritten}
use Rattle.lid_emit_shells.proofs.nets.put_wires.Given as goal

abbrev pub invariant-loop-j : goal.invariant-loop-j
invariant-loop-j l = record {
  kept : length l.wires.items ≡ length l.fn.wires.items;
  left : overwritten (drop l.j l.nets) (drop l.j l.values) l.wires.items ≡ overwritten l.nets l.values l.fn.wires.items;
}
