use Rattle.std.proofs.Common.{◌≡◌, ◌++◌, drop}
use Rattle.lid_blif.specs.Designs.{models_of}
use Rattle.lid_blif.proofs.models.models_of.Given as goal

abbrev pub invariant-loop-at : goal.invariant-loop-at
invariant-loop-at l = l.models.items ++ models_of (drop l.at l.lines) ≡ models_of l.lines
