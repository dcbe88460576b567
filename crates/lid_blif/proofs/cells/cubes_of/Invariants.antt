use Rattle.std.proofs.Common.{◌≡◌, take}
use Rattle.std.specs.Prelude.{map}
use Rattle.lid_blif.specs.Designs.{cube_of}
use Rattle.lid_blif.proofs.cells.cubes_of.Given as goal

abbrev pub invariant-loop-row : goal.invariant-loop-row
invariant-loop-row l = l.cubes.items ≡ map (cube_of l.inputs) (take l.row-index l.rows)
