use Rattle.std.proofs.Common.{◌<◌, ℕ, length, get_or, List, sym, ◌∙◌, ap, subst}
use Rattle.std.specs.List.{AllByRecursion}
use Rattle.lid_base.specs.Lists.{Among}
use Rattle.lid_strict_engine.specs.declared.program.ProgramStep.{ProgramStep}
use Rattle.lid_strict_widths.specs.Steps.{steps_at}
use Rattle.lid_strict_widths.specs.Orders.{AreLastWrites, ReadsPast}
use Rattle.lid_strict_widths.proofs.Standing.{steps_among, picked_outs, runs_in}
use Rattle.lid_strict_widths.proofs.ordering.may_run_in.Goals as goal

pub last_writes-requires : goal.last_writes-requires
last_writes-requires c =
    let p = c.args.program.now in
    let order = c.args.order.now in
    let within = subst (λ (ss : List ProgramStep). AllByRecursion (λ k. k < length ss) order) c.as_slice.ensures.value (c.are_places.ensures.0 c.if-not-are_places.false) in
    let picked = c.in_ok-steps.ensures ∙ ap (λ (ss : List ProgramStep). steps_at ss order) c.as_slice-2.ensures.value in
    subst (AllByRecursion (λ s. s.out < p.nets)) (sym (c.as_slice-3.ensures.value ∙ picked)) (picked_outs p (steps_at p.steps.items order) c.requires (steps_among p.steps.items order within))

pub may_stand_in-requires-clause-steps : goal.may_stand_in-requires-clause-steps
may_stand_in-requires-clause-steps c =
    let p = c.args.program.now in
    let order = c.args.order.now in
    let within = subst (λ (ss : List ProgramStep). AllByRecursion (λ k. k < length ss) order) c.as_slice.ensures.value (c.are_places.ensures.0 c.if-not-are_places.false) in
    let picked = c.in_ok-steps.ensures ∙ ap (λ (ss : List ProgramStep). steps_at ss order) c.as_slice-2.ensures.value in
    subst (AllByRecursion (λ s. Among s p.steps.items)) (sym (c.as_slice-4.ensures.value ∙ picked)) (steps_among p.steps.items order within)

pub returns : goal.returns
returns c passed =
    let p = c.args.program.now in
    let order = c.args.order.now in
    let last = c.in_ok-last.last.items in
    let within = subst (λ (ss : List ProgramStep). AllByRecursion (λ k. k < length ss) order) c.as_slice.ensures.value (c.are_places.ensures.0 c.if-not-are_places.false) in
    let picked = c.in_ok-steps.ensures ∙ ap (λ (ss : List ProgramStep). steps_at ss order) c.as_slice-2.ensures.value in
    let are = subst (λ (ss : List ProgramStep). AreLastWrites ss last) (c.as_slice-3.ensures.value ∙ picked) c.in_ok-last.ensures.are in
    let same = c.as_slice-5.ensures.value in
    let past = subst (λ (ss : List ProgramStep). ReadsPast p.reads.items ss last) (c.as_slice-4.ensures.value ∙ picked) (subst (λ (ns : List ℕ). ReadsPast p.reads.items c.as_slice-4.result.now ns) same (c.may_stand_in.ensures.reads passed)) in
    runs_in p order last within are past (subst (λ (ns : List ℕ). AllByRecursion (λ s. 0 < get_or ns s.out 0) p.steps.items) same (c.may_stand_in.ensures.writes passed))
