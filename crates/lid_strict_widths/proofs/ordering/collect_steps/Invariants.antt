use Rattle.std.proofs.Common.{◌≡◌, ◌++◌, drop}
use Rattle.lid_strict_widths.specs.Steps.{steps_at}
use Rattle.lid_strict_widths.proofs.ordering.collect_steps.Given as goal

abbrev pub invariant-loop-place : goal.invariant-loop-place
invariant-loop-place l = l.picked.items ++ steps_at l.steps (drop l.place-index l.places) ≡ steps_at l.steps l.places
