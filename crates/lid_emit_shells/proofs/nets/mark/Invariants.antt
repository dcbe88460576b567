use Rattle.std.proofs.Common.{◌≡◌, length, map, drop}
use Rattle.lid_emit_shells.specs.Filling.{overwritten, cover_out, is_passing}
use Rattle.lid_emit_shells.proofs.nets.mark.Given as goal

abbrev pub invariant-loop-c : goal.invariant-loop-c
invariant-loop-c l = record {
  kept : length l.marks.items ≡ length l.fn.marks.items;
  left :
      overwritten (map cover_out (drop l.c-index l.covers)) (map is_passing (drop l.c-index l.covers)) l.marks.items
      ≡ overwritten (map cover_out l.covers) (map is_passing l.covers) l.fn.marks.items;
}
