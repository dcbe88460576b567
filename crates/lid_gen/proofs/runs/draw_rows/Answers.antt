use Rattle.std.proofs.Common.{◌*◌, refl, sym, ◌∙◌, ap}
use Rattle.lid_gen.specs.Draws.{state_after}
use Rattle.lid_gen.specs.Runs.{row_from}
use Rattle.lid_gen.proofs.Drawing.{each_pushed, after_four}
use Rattle.lid_gen.proofs.runs.draw_rows.Goals as goal

pub loop-init : goal.loop-init
unfolding state_after
loop-init c = (c.in_ok-bits.ensures.items, refl)

pub loop-preserved : goal.loop-preserved
loop-preserved c =
    let first = c.args.draws.state in (
      each_pushed (λ t. row_from (state_after (4 * t) first)) c.loop.counter c.loop.bits.items c.push.new.self.items c.in_ok-draw_row.field-0 c.loop.invariant.0 c.in_ok-push.ensures.items (c.in_ok-draw_row.ensures.row ∙ ap row_from c.loop.invariant.1),
      c.in_ok-draw_row.ensures.state ∙ ap (state_after 4) c.loop.invariant.1 ∙ sym (after_four c.loop.counter first),
    )
