use Rattle.std.proofs.Common.{◌≡◌, ◌++◌, drop}
use Rattle.lid_blif.specs.Designs.{cells_of}
use Rattle.lid_blif.proofs.models.cells_of.Given as goal

abbrev pub invariant-loop-at : goal.invariant-loop-at
invariant-loop-at l = l.cells.items ++ cells_of (drop l.at l.body) ≡ cells_of l.body
