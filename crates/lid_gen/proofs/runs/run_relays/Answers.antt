use Rattle.std.proofs.Common.{ℕ, ◌+◌, ◌*◌, ◌%◌, sym, ◌∙◌, ap}
use Rattle.lid_gen.specs.Draws.{first_state, moved, state_after, drawn}
use Rattle.lid_gen.specs.Runs.{design_draws}
use Rattle.lid_gen.proofs.Drawing.{each_pushed, after_next}
use Rattle.lid_gen.proofs.runs.run_relays.Goals as goal

pub loop-init : goal.loop-init
unfolding state_after
loop-init c = (c.in_ok-relays.ensures.items, c.skip.ensures ∙ ap (state_after (design_draws c.args.shells + 4 * c.args.rows)) c.begin-draws.ensures)

pub loop-preserved : goal.loop-preserved
loop-preserved c =
    let first = state_after (design_draws c.args.shells + 4 * c.args.rows) (first_state c.args.seed) in (
      each_pushed (λ j. drawn first j 4) c.loop.counter c.loop.relays.items c.push.new.self.items c.draw.result c.loop.invariant.0 c.in_ok-push.ensures.items (c.draw.ensures.value ∙ ap (λ (s : ℕ). moved s % 4) c.loop.invariant.1),
      c.draw.ensures.state ∙ ap moved c.loop.invariant.1 ∙ sym (after_next c.loop.counter first),
    )
