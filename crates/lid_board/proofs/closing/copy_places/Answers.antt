use Rattle.std.proofs.Common.{arith}
use Rattle.std.specs.Mem.Slots.{slots_items}
use Rattle.lid_board.proofs.Closed.{copied_more, small_more}
use Rattle.lid_board.proofs.closing.copy_places.Goals as goal

pub loop-place-preserved : goal.loop-place-preserved
loop-place-preserved c = record {
  each = copied_more (slots_items c.args.closed.now.words) c.args.first c.loop-place.places c.loop-place.place c.token_at.result c.word.result (omega arith) c.token_at.ensures.token c.word.ensures c.loop-place.invariant.each;
  small = small_more c.loop-place.places c.loop-place.place c.token_at.result (omega arith) c.token_at.ensures.small c.loop-place.invariant.small;
}
