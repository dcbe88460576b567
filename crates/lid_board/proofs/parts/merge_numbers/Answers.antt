use Rattle.std.proofs.Common.{refl, arith}
use Rattle.lid_board.proofs.Numbers.{merged_more}
use Rattle.lid_board.proofs.parts.merge_numbers.Goals as goal

pub loop-number-preserved : goal.loop-number-preserved
loop-number-preserved c =
    merged_more c.loop-number.into c.args.into.now c.args.from.now c.loop-number.number _ _ c.first_of.result (omega arith) refl refl c.first_of.ensures c.loop-number.invariant
