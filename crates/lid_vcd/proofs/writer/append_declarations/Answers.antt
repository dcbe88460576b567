use Rattle.std.proofs.Common.{arith}
use Rattle.std.proofs.lemmas.Grind.{common_steps}
use Rattle.lid_vcd.proofs.Parts.{declared_step}
use Rattle.lid_vcd.proofs.writer.append_declarations.Goals as goal

pub loop-left-preserved : goal.loop-left-preserved
loop-left-preserved c =
    let l = c.loop-left in
    let some = c.loop-left-test.true in
    record {
      done = declared_step l.n l.left l.into.items _ _ (omega arith) l.invariant.done c.in_ok-append_declaration.ensures.ok;
      kept = grind (arith, common_steps);
      sum = (let e = l.invariant.sum in omega arith);
    }
