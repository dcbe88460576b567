use Rattle.std.proofs.Common.{arith}
use Rattle.std.proofs.lemmas.Grind.{common_steps}
use Rattle.lid_texts_runs.proofs.Steps.{cells_left}
use Rattle.lid_vcd.proofs.Parts.{later_step}
use Rattle.lid_vcd.proofs.writer.append_later.Goals as goal

pub loop-left-preserved : goal.loop-left-preserved
loop-left-preserved c =
    let l = c.loop-left in
    let some = c.loop-left-test.true in
    record {
      done = later_step c.args.stations l.k l.left l.before.now c.split_at.result.0.now l.rest.now c.split_at.result.1.now l.into.items _ _ (omega arith) c.split_at.ensures.front c.split_at.ensures.back l.invariant.done c.in_ok-append_cycle.ensures.ok;
      kept = grind (arith, common_steps);
      long = cells_left c.args.stations l.left _ _ (omega arith) l.invariant.long c.split_at.ensures.back_len;
      few = (let e = l.invariant.few in omega arith);
    }
