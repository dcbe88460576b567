use Rattle.lid_strict_widths.proofs.Standing.{picked_room}
use Rattle.std.proofs.Common.{◌+◌, ◌≤◌, ℕ, List, length, subst, sym}
use Rattle.std.specs.List.{AllByRecursion}
use Rattle.lid_strict_widths.proofs.ordering.may_stand_in.Goals as goal

pub reads_past-requires-clause-steps : goal.reads_past-requires-clause-steps
reads_past-requires-clause-steps c = subst (λ (rs : List ℕ). AllByRecursion (λ s. s.first + s.width ≤ length rs) c.args.steps.now) (sym c.as_slice-then-writes_all.ensures.value) (picked_room c.args.program.now c.args.steps.now c.requires.ready c.requires.steps)
