use Rattle.std.proofs.Common.{◌≡◌, ◌++◌, drop, map}
use Rattle.lid_blif.specs.Designs.{bind_of}
use Rattle.lid_blif.proofs.cells.binds_of.Given as goal

abbrev pub invariant-loop-at : goal.invariant-loop-at
invariant-loop-at l = l.binds.items ++ map bind_of (drop l.at l.words) ≡ map bind_of l.words
