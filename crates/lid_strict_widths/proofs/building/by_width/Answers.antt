use Rattle.std.proofs.Common.{◌≤◌, ◌<◌, ◌+◌, ℕ, length, List, sym, ◌∙◌, ap, subst}
use Rattle.std.specs.List.{AllByRecursion}
use Rattle.lid_cover.specs.declared.Cube.{Cube}
use Rattle.lid_cover.specs.Cover.{IsCover}
use Rattle.lid_strict_engine.specs.Programs.{step_cover, IsSpan}
use Rattle.lid_strict_engine.specs.declared.program.ProgramStep.{ProgramStep}
use Rattle.lid_strict_widths.specs.Steps.{steps_at}
use Rattle.lid_strict_widths.proofs.Standing.{steps_among, picked_room, picked_rows, picked_covers, order_within}
use Rattle.lid_strict_widths.proofs.building.by_width.Goals as goal

pub collect_steps-requires : goal.collect_steps-requires
collect_steps-requires c =
    let p = c.args.program in
    subst (λ (ss : List ProgramStep). AllByRecursion (λ k. k < length ss) c.as_slice-2.result.now) (sym c.as_slice.ensures.value)
    (subst (AllByRecursion (λ k. k < length p.steps.items)) (sym c.as_slice-2.ensures.value) (order_within p c.args.order.items c.requires.order))

pub tables_of-requires-clause-rows : goal.tables_of-requires-clause-rows
tables_of-requires-clause-rows c =
    let p = c.args.program in
    let order = c.args.order.items in
    let of = steps_among p.steps.items order (order_within p order c.requires.order) in
    let picked = c.in_ok-steps.ensures ∙ ap (λ (ss : List ProgramStep). steps_at ss c.as_slice-2.result.now) c.as_slice.ensures.value ∙ ap (steps_at p.steps.items) c.as_slice-2.ensures.value in
    subst (λ (cubes : List Cube). AllByRecursion (λ s. IsSpan cubes s.cubes) c.as_slice-5.result.now) (sym c.as_slice-4.ensures.value)
    (subst (AllByRecursion (λ s. IsSpan p.cubes.items s.cubes)) (sym (c.as_slice-5.ensures.value ∙ picked)) (picked_rows p (steps_at p.steps.items order) c.requires.ready of))

pub tables_of-requires-clause-covers : goal.tables_of-requires-clause-covers
tables_of-requires-clause-covers c =
    let p = c.args.program in
    let order = c.args.order.items in
    let of = steps_among p.steps.items order (order_within p order c.requires.order) in
    let picked = c.in_ok-steps.ensures ∙ ap (λ (ss : List ProgramStep). steps_at ss c.as_slice-2.result.now) c.as_slice.ensures.value ∙ ap (steps_at p.steps.items) c.as_slice-2.ensures.value in
    subst (λ (cubes : List Cube). AllByRecursion (λ s. IsCover (step_cover cubes s)) c.as_slice-5.result.now) (sym c.as_slice-4.ensures.value)
    (subst (AllByRecursion (λ s. IsCover (step_cover p.cubes.items s))) (sym (c.as_slice-5.ensures.value ∙ picked)) (picked_covers p (steps_at p.steps.items order) c.requires.ready of))

pub reads_of-requires : goal.reads_of-requires
reads_of-requires c =
    let p = c.args.program in
    let order = c.args.order.items in
    let of = steps_among p.steps.items order (order_within p order c.requires.order) in
    let picked = c.in_ok-steps.ensures ∙ ap (λ (ss : List ProgramStep). steps_at ss c.as_slice-2.result.now) c.as_slice.ensures.value ∙ ap (steps_at p.steps.items) c.as_slice-2.ensures.value in
    subst (λ (reads : List ℕ). AllByRecursion (λ s. s.first + s.width ≤ length reads) c.as_slice-7.result.now) (sym c.as_slice-6.ensures.value)
    (subst (AllByRecursion (λ s. s.first + s.width ≤ length p.reads.items)) (sym (c.as_slice-7.ensures.value ∙ picked)) (picked_room p (steps_at p.steps.items order) c.requires.ready of))
