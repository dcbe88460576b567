use Rattle.std.proofs.Common.{◌≡◌, ◌++◌, map, drop}
use Rattle.lid_strict_tables.specs.Wide.{low_mask}
use Rattle.lid_strict_tables.proofs.mask.masks_of.Given as goal

abbrev pub invariant-loop-cube : goal.invariant-loop-cube
invariant-loop-cube l = l.masks.items ++ map low_mask (drop l.cube-index l.cubes) ≡ map low_mask l.cubes
