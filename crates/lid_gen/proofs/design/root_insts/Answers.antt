use Rattle.std.proofs.Common.{ℕ, ◌*◌, ◌%◌, refl, sym, ◌∙◌, ap}
use Rattle.lid_gen.specs.Draws.{moved, state_after, drawn}
use Rattle.lid_gen.specs.Designs.{count_places, shell, shell_at}
use Rattle.lid_gen.proofs.Drawing.{each_pushed, after_next, after_two}
use Rattle.lid_gen.proofs.design.root_insts.Goals as goal

pub loop-i-init : goal.loop-i-init
unfolding state_after
loop-i-init c = (c.in_ok-insts.ensures.items, refl)

pub loop-i-preserved : goal.loop-i-preserved
loop-i-preserved c =
    let first = c.args.draws.now.state in
    let i = c.loop-i.i in
    let places = count_places c.args.shells in
    let state = c.draw-kind.ensures.state ∙ ap moved c.loop-i.invariant.1 in
    let kind = c.draw-kind.ensures.value ∙ ap (λ (s : ℕ). moved s % 4) c.loop-i.invariant.1 in
    let place = c.draw-place.ensures.value ∙ ap (λ (s : ℕ). moved s % places) (state ∙ sym (after_next (2 * i) first)) in
    let is = c.in_ok-shell.ensures ∙ ap (λ (k : ℕ). shell i k c.draw-place.result) kind ∙ ap (shell i (drawn first (2 * i) 4)) place in (
      each_pushed (shell_at first c.args.shells) i c.loop-i.insts.items c.push.new.self.items c.in_ok-shell.field-0 c.loop-i.invariant.0 c.in_ok-push.ensures.items is,
      c.draw-place.ensures.state ∙ ap moved state ∙ sym (after_two i first),
    )
