use Rattle.std.proofs.Common.{refl, arith}
use Rattle.lid_board.proofs.Numbers.{chosen_within, moved_from, moved_into}
use Rattle.lid_board.proofs.parts.move_numbers.Goals as goal

pub slice_copy_out-first_of : goal.slice_copy_out-first_of
slice_copy_out-first_of c = let within = chosen_within c.args.ends.now c.loop-end.end-index c.number_of-number.result _ _ (omega arith) c.number_of-number.ensures.number c.requires.inside in omega arith

pub slice_copy_out-first_of-in-loop-end : goal.slice_copy_out-first_of-in-loop-end
slice_copy_out-first_of-in-loop-end c = let within = chosen_within c.args.ends.now c.loop-end.end-index c.number_of-number.result _ _ (omega arith) c.number_of-number.ensures.number c.requires.inside in omega arith

pub bounds-into-number : goal.bounds-into-number
bounds-into-number c = let within = chosen_within c.args.ends.now c.loop-end.end-index c.number_of-number.result _ _ (omega arith) c.number_of-number.ensures.number c.requires.inside in omega arith

pub bounds-from-number : goal.bounds-from-number
bounds-from-number c = let within = chosen_within c.args.ends.now c.loop-end.end-index c.number_of-number.result _ _ (omega arith) c.number_of-number.ensures.number c.requires.inside in omega arith

pub loop-end-preserved : goal.loop-end-preserved
loop-end-preserved c =
    let there = chosen_within c.args.ends.now c.loop-end.end-index c.number_of-number.result _ _ (omega arith) c.number_of-number.ensures.number c.requires.inside in
    record {
      from = moved_from c.args.ends.now c.loop-end.end-index c.number_of-number.result _ (omega arith) c.number_of-number.ensures.number c.loop-end.from c.args.from.now (omega arith) c.loop-end.invariant.from;
      into = moved_into c.args.ends.now c.loop-end.end-index c.number_of-number.result _ (omega arith) c.number_of-number.ensures.number c.loop-end.from c.loop-end.into c.args.from.now _ _ c.first_of.result (omega arith) refl refl c.first_of.ensures c.loop-end.invariant.from c.loop-end.invariant.into;
    }
