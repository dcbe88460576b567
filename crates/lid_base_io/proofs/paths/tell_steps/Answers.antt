use Rattle.std.proofs.Common.{◌∙◌, arith}
use Rattle.lid_base_io.specs.Telling.{steps_text}
use Rattle.lid_base_io.proofs.StepTexts.{step_written, step_begun, step_joined, step_part}
use Rattle.lid_base_io.proofs.paths.tell_steps.Goals as goal

pub loop-step-preserved : goal.loop-step-preserved
loop-step-preserved g c = record {
  so_far =
      step_written (g.E.Sink.written c.args.err.now) (g.E.Sink.written c.loop-step.err) (g.E.Sink.written c.tell_step.new.err)
      (steps_text c.args.steps.now) c.args.steps.now c.loop-step.step-index _ c.loop-step-test.true
      c.loop-step.invariant.so_far c.in-Ok.ensures.ok;
  pieces =
      step_joined (g.E.Sink.pieces c.args.err.now) (g.E.Sink.pieces c.loop-step.err) (g.E.Sink.pieces c.tell_step.new.err)
      (steps_text c.args.steps.now) c.args.steps.now c.loop-step.step-index _ c.loop-step-test.true
      c.loop-step.invariant.pieces c.in-Ok.ensures.pieces;
  still = c.in-Ok.ensures.still ∙ c.loop-step.invariant.still;
  grows = let after = c.in-Ok.ensures.grows in omega arith;
}

pub returns-in_default-clause-err : goal.returns-in_default-clause-err
returns-in_default-clause-err g c =
    step_begun (g.E.Sink.written c.args.err.now) (g.E.Sink.written c.loop-step.err) (g.E.Sink.written c.tell_step.new.err)
    (steps_text c.args.steps.now) c.args.steps.now c.loop-step.step-index _ c.loop-step-test.true
    c.loop-step.invariant.so_far c.in_default.ensures.err

pub returns-in_default-clause-begun : goal.returns-in_default-clause-begun
returns-in_default-clause-begun g c =
    step_part (g.E.Sink.pieces c.args.err.now) (g.E.Sink.pieces c.loop-step.err) (g.E.Sink.pieces c.tell_step.new.err)
    (steps_text c.args.steps.now) c.args.steps.now c.loop-step.step-index _ c.loop-step-test.true
    c.loop-step.invariant.pieces c.in_default.ensures.begun
