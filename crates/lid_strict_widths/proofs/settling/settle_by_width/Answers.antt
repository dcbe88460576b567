use Rattle.std.proofs.Common.{◌≡◌, ◌≤◌, ℕ, List, length, get_or, [], ◌∷◌, refl, subst, sym, ◌∙◌, arith}
use Rattle.std.proofs.lemmas.List.{take_all, length-map}
use Rattle.lid_design.specs.declared.FlatCover.{FlatCover}
use Rattle.lid_strict_engine.specs.declared.program.ProgramStep.{ProgramStep}
use Rattle.lid_strict_engine.specs.Programs.{shown_step, program_covers}
use Rattle.lid_strict_engine.specs.Rows.{AreRightAt, known_after}
use Rattle.lid_strict_widths.specs.Steps.{reads_before}
use Rattle.lid_strict_widths.specs.Orders.{StandIn}
use Rattle.lid_strict_widths.specs.Groups.{run_steps, run_covers, RightUpTo}
use Rattle.lid_strict_widths.proofs.Standing.{shown_at, order_within}
use Rattle.lid_strict_widths.proofs.Going.{no_group, tile_next_in, tile_end, right_joined}
use Rattle.lid_strict_widths.proofs.settling.settle_by_width.Goals as goal

pub loop-group-preserved : goal.loop-group-preserved
loop-group-preserved c =
    let x = c.args.x.now in
    let at = c.loop-group.invariant.1 in
    let g = get_or c.as_slice-group-items.result.now c.loop-group.group-index no_group in
    let next = tile_next_in (run_steps x) at (length (run_steps x)) c.as_slice-group-items.result.now x.groups.items c.loop-group.group-index c.as_slice-group-items.ensures.value c.loop-group-test.true c.loop-group.invariant.3 in (
      c.settle_group-at.ensures.size ∙ c.loop-group.invariant.0,
      g.end,
      c.settle_group-at.ensures.at,
      next.left,
      right_joined (run_covers x) 0 at g.end c.args.bits.now c.loop-group.bits c.settle_group-at.new.bits c.loop-group.invariant.4
          (subst (λ (n : ℕ). RightUpTo (run_covers x) n c.loop-group.bits g.end c.settle_group-at.new.bits) next.start c.settle_group-at.ensures.bits),
    )

pub returns-clause-bits : goal.returns-clause-bits
returns-clause-bits c f known row earlier before =
    let x = c.args.x.now in
    let p = x.program in
    let value = c.as_slice-group-items.ensures.value in
    let len = c.as_slice-group-items.ensures.len in
    let at = c.loop-group.invariant.1 in
    let done : at ≡ length (run_steps x) = tile_end (run_steps x) at (length (run_steps x)) x.groups.items c.loop-group.group-index (subst (λ gs. length gs ≤ c.loop-group.group-index) value (omega arith)) c.loop-group.invariant.3 in
    let long : length (run_covers x) ≡ length (run_steps x) = length-map (run_steps x) (shown_step p.reads.items p.cubes.items) in
    let within = order_within p x.order.items c.requires.is.order in
    let stands : StandIn (program_covers p) (run_covers x) f known =
    subst (λ (cs : List FlatCover). StandIn (program_covers p) cs f known) (shown_at p x.order.items within) (c.requires.is.order.serves f known row earlier) in
    let right : AreRightAt f (known_after known (run_covers x)) c.loop-group.bits =
    subst (λ (cs : List FlatCover). AreRightAt f (known_after known cs) c.loop-group.bits) (take_all at (run_covers x) (omega arith)) (c.loop-group.invariant.4 f known stands.row stands.earlier before) in
    λ k among. right k (stands.all k among)

pub loop-group-init : goal.loop-group-init
loop-group-init c = (refl, 0, sym (none (run_steps c.args.x.now)), c.requires.is.groups, (λ f known row earlier before. before))
  where
    none : (steps : List ProgramStep) → reads_before steps 0 ≡ 0
    none [] = refl
    none (s ∷ steps) = refl
