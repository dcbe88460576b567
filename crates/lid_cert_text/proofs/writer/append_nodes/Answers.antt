use Rattle.std.proofs.Common.{arith}
use Rattle.std.proofs.lemmas.Grind.{common_steps}
use Rattle.lid_cert_text.proofs.PrintedLines.{rows_pushed}
use Rattle.lid_cert_text.proofs.writer.append_nodes.Goals as goal

pub loop-i-preserved : goal.loop-i-preserved
loop-i-preserved c = record {
  done = rows_pushed c.args.part.now c.loop-i.i _ _ c.append_node.new.into.items c.loop-i.invariant.done c.in_ok-append_node.ensures.ok;
  kept = grind (arith, common_steps);
}
