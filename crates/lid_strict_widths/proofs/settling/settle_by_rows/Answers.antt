use Rattle.std.proofs.Common.{◌≡◌, ◌<◌, ◌≤◌, ℕ, length, Some, slice_get, refl, subst, sym, ◌∙◌, arith}
use Rattle.std.proofs.lemmas.List.{length-set}
use Rattle.lid_base.proofs.Lists.{all_at}
use Rattle.lid_strict_engine.specs.Programs.{IsStep}
use Rattle.lid_strict_widths.specs.Groups.{run_steps, run_covers, RightUpTo}
use Rattle.lid_strict_widths.proofs.Going.{run_all, hand_at, reads_next, right_next}
use Rattle.lid_strict_widths.proofs.settling.settle_by_rows.Goals as goal

pub value_of_step-value-requires-clause-step : goal.value_of_step-value-requires-clause-step
value_of_step-value-requires-clause-step c =
    let x = c.args.x.now in
    let p = x.program in
    all_at (IsStep p.nets p.reads.items p.cubes.items) (run_steps x) c.loop-i.i c.step_at-step.result (run_all x c.requires.is) c.step_at-step.ensures

pub loop-i-preserved : goal.loop-i-preserved
loop-i-preserved c =
    let x = c.args.x.now in
    let p = x.program in
    let i = c.loop-i.i in
    let step = c.step_at-step.result in
    let here : slice_get (run_steps x) i ≡ Some step = c.step_at-step.ensures in
    let is : IsStep p.nets p.reads.items p.cubes.items step = all_at (IsStep p.nets p.reads.items p.cubes.items) (run_steps x) i step (run_all x c.requires.is) here in
    let below = is.out in
    let size : p.nets ≤ length c.loop-i.bits = subst (λ (n : ℕ). p.nets ≤ n) (sym c.loop-i.invariant.0) c.requires.size in (
      length-set c.loop-i.bits step.out c.value_of_step-value.result ∙ c.loop-i.invariant.0,
      (let next = reads_next (run_steps x) i step here in let at = c.loop-i.invariant.1 in omega arith),
      right_next (run_steps x) p.reads.items p.cubes.items step i c.args.group.start step.out c.args.bits.now c.loop-i.bits c.value_of_step-value.result here (omega arith) refl
          c.value_of_step-value.ensures c.loop-i.invariant.2,
    )

pub bounds-bits-step : goal.bounds-bits-step
bounds-bits-step c =
    let x = c.args.x.now in
    let p = x.program in
    let is : IsStep p.nets p.reads.items p.cubes.items c.step_at-step.result = all_at (IsStep p.nets p.reads.items p.cubes.items) (run_steps x) c.loop-i.i c.step_at-step.result (run_all x c.requires.is) c.step_at-step.ensures in
    let below = is.out in
    let size : p.nets ≤ length c.loop-i.bits = subst (λ (n : ℕ). p.nets ≤ n) (sym c.loop-i.invariant.0) c.requires.size in
    omega arith

pub returns-clause-bits : goal.returns-clause-bits
returns-clause-bits c = subst (λ (n : ℕ). RightUpTo (run_covers c.args.x.now) c.args.group.start c.args.bits.now n c.loop-i.bits) (let order = c.requires.group.order in omega arith) c.loop-i.invariant.2

pub overflow_add-at : goal.overflow_add-at
overflow_add-at c =
    let x = c.args.x.now in
    let i = c.loop-i.i in
    let within = c.requires.group.within in
    let inside : i < length (run_steps x) = omega arith in
    let h = hand_at x i c.requires.is inside in
    let next = h.next in
    let same = reads_next (run_steps x) i c.step_at-step.result c.step_at-step.ensures in
    let room = h.room in
    let at = c.loop-i.invariant.1 in
    let small = x.reads.small in
    omega arith
