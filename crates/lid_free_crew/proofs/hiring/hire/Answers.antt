use Rattle.std.proofs.Common.{◌≡◌, sym, ◌∙◌, arith}
use Rattle.lid_board.specs.Owners.{start_ends}
use Rattle.lid_free_crew.proofs.Choosing.{none_given, all_given}
use Rattle.lid_free_crew.proofs.Lists.{hired_more}
use Rattle.lid_free_crew.proofs.hiring.hire.Goals as goal

pub loop-number-preserved : goal.loop-number-preserved
loop-number-preserved c = record {
  of = c.new_worker.ensures.of;
  given = c.in_ok-new_worker.ensures.given;
  hired = hired_more c.args.board.now c.args.workers c.args.owners.now (start_ends c.args.board.now) c.loop-number.number c.loop-number.crew.items c.push.new.self.items c.in_ok-new_worker.field-0 c.loop-number.invariant.hired c.in_ok-new_worker.ensures.hired c.in_ok-push.ensures.items;
}
