use Rattle.std.proofs.Common.{refl, sym, ◌∙◌, ap}
use Rattle.lid_gen.specs.Draws.{moved, state_after}
use Rattle.lid_gen.proofs.Drawing.{after_next}
use Rattle.lid_gen.proofs.draws.Draws.skip.Goals as goal

pub loop-init : goal.loop-init
unfolding state_after
loop-init c = refl

pub loop-preserved : goal.loop-preserved
loop-preserved c = c.draw-answer.ensures.state ∙ ap moved c.loop.invariant ∙ sym (after_next c.loop.counter c.args.self.now.state)
