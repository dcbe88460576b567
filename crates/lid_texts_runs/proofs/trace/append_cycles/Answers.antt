use Rattle.std.proofs.Common.{◌++◌, ◌∙◌, List, ap, arith}
use Rattle.std.proofs.lemmas.Grind.{common_steps}
use Rattle.lid_base.specs.declared.runs.Shown.{Shown}
use Rattle.lid_base_lines.specs.Texts.{line_text}
use Rattle.lid_texts_runs.specs.Runs.{cycle_words}
use Rattle.lid_texts_runs.proofs.Steps.{cycle_step, cells_left}
use Rattle.lid_texts_runs.proofs.trace.append_cycles.Goals as goal

pub loop-left-preserved : goal.loop-left-preserved
loop-left-preserved c =
    let l = c.loop-left in
    record {
      done = cycle_step c.args.stations l.left l.rest.now c.split_at.result.1.now l.into.items c.append_cycle.new.into.items _ (let some = c.loop-left-test.true in omega arith) l.invariant.done
          (c.in_ok-append_cycle.ensures.ok ∙ ap (λ (cells : List Shown). l.into.items ++ line_text (cycle_words c.args.stations cells)) c.split_at.ensures.front) c.split_at.ensures.back;
      kept = grind (arith, common_steps);
      long = cells_left c.args.stations l.left _ _ (let some = c.loop-left-test.true in omega arith) l.invariant.long c.split_at.ensures.back_len;
      width = l.invariant.width;
    }
