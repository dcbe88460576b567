use Rattle.std.proofs.Common.{◌≡◌, length, map, drop}
use Rattle.lid_design.specs.Flat.{latch_out}
use Rattle.lid_emit_shells.specs.Filling.{overwritten, wire_read}
use Rattle.lid_emit_shells.proofs.nets.put_latches.Given as goal

abbrev pub invariant-loop-latch : goal.invariant-loop-latch
invariant-loop-latch l = record {
  kept : length l.wires.items ≡ length l.fn.wires.items;
  left :
      overwritten (map latch_out (drop l.latch-index l.latches)) (map (wire_read l.here) (drop l.latch-index l.latches)) l.wires.items
      ≡ overwritten (map latch_out l.latches) (map (wire_read l.here) l.latches) l.fn.wires.items;
}
