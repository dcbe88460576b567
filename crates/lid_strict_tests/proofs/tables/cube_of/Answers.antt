use Rattle.std.proofs.Common.{◌/◌, refl}
use Rattle.lid_strict_tests.proofs.Cubes.{cube_is}
use Rattle.lid_strict_tests.proofs.tables.cube_of.Goals as goal

pub returns : goal.returns
returns c = cube_is c.args.inputs _ (c.args.seed / 8589934592) _ c.requires refl refl
