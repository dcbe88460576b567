use Rattle.std.proofs.Common.{◌≡◌, ◌<◌, ◌≤◌, ℕ, Some, slice_get, get_or}
use Rattle.std.specs.List.{AllByRecursion}
use Rattle.lid_strict_engine.specs.declared.program.ProgramStep.{ProgramStep}
use Rattle.lid_strict_widths.specs.Steps.{own_reads}
use Rattle.lid_strict_widths.proofs.ordering.reads_past.Given as goal

abbrev pub invariant-loop-j : goal.invariant-loop-j
invariant-loop-j l = (i : ℕ) (s : ProgramStep) → i < l.j → slice_get l.steps i ≡ Some s → AllByRecursion (λ k. get_or l.last k 0 ≤ i) (own_reads l.reads s)
