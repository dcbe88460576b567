use Rattle.std.specs.List.{AllByRecursion}
use Rattle.lid_cover.specs.Cover.{IsCube}
use Rattle.lid_strict_tests.proofs.tables.cover_of.Given as goal

abbrev pub invariant-loop : goal.invariant-loop
invariant-loop l = AllByRecursion (IsCube l.inputs) l.cubes.items
