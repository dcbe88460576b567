use Rattle.std.proofs.Common.{◌≡◌, ℕ, ◌%◌, refl, sym, ◌∙◌, ap, arith}
use Rattle.lid_base.specs.Each.{from_each}
use Rattle.lid_gen.specs.Draws.{moved, state_after}
use Rattle.lid_gen.specs.Designs.{count_places, buffer, buffer_at}
use Rattle.lid_gen.proofs.Drawing.{each_pushed, after_next}
use Rattle.lid_gen.proofs.design.root_cells.Goals as goal

pub loop-j-init : goal.loop-j-init
unfolding state_after
loop-j-init c = (c.in_ok-cells.ensures.items, refl)

pub loop-j-preserved : goal.loop-j-preserved
loop-j-preserved c =
    let first = c.args.draws.now.state in
    let j = c.loop-j.j in
    let is = c.in_ok-buffer.ensures ∙ ap (buffer j) (c.draw-place.ensures.value ∙ ap (λ (s : ℕ). moved s % count_places c.args.shells) c.loop-j.invariant.1) in (
      each_pushed (buffer_at first c.args.shells) j c.loop-j.cells.items c.push.new.self.items c.in_ok-buffer.field-0 c.loop-j.invariant.0 c.in_ok-push.ensures.items is,
      c.draw-place.ensures.state ∙ ap moved c.loop-j.invariant.1 ∙ sym (after_next j first),
    )

pub returns : goal.returns
returns c =
    let four : c.loop-j.j ≡ 4 = omega (arith, c.loop-j-test.false, c.loop-j.auto.j-end) in
    c.from_vec.ensures ∙ c.loop-j.invariant.0 ∙ ap (from_each (buffer_at c.args.draws.now.state c.args.shells) 0) four
