use Rattle.std.proofs.Common.{ℕ, ◌%◌, ◌==◌, refl, sym, ◌∙◌, ap}
use Rattle.lid_gen.specs.Draws.{moved, state_after, drawn}
use Rattle.lid_gen.proofs.Drawing.{each_pushed, after_next}
use Rattle.lid_gen.proofs.runs.draw_row.Goals as goal

pub loop-init : goal.loop-init
unfolding state_after
loop-init c = (c.in_ok-bits.ensures.items, refl)

pub loop-preserved : goal.loop-preserved
loop-preserved c =
    let first = c.args.draws.now.state in
    let value = c.draw.ensures.value ∙ ap (λ (s : ℕ). moved s % 2) c.loop.invariant.1 in (
      each_pushed (λ j. drawn first j 2 == 1) c.loop.counter c.loop.bits.items c.push.new.self.items (c.draw.result == 1) c.loop.invariant.0 c.in_ok-push.ensures.items (ap (λ (n : ℕ). n == 1) value),
      c.draw.ensures.state ∙ ap moved c.loop.invariant.1 ∙ sym (after_next c.loop.counter first),
    )
