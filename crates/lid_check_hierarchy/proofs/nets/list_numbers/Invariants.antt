use Rattle.std.proofs.Common.{◌≡◌, take}
use Rattle.lid_check_table.specs.Tables.{names_in}
use Rattle.lid_check_hierarchy.specs.Nets.{numbers_of}
use Rattle.lid_check_hierarchy.proofs.nets.list_numbers.Given as goal

abbrev pub invariant-loop-place : goal.invariant-loop-place
invariant-loop-place l = l.numbers.items ≡ numbers_of (names_in l.table) (take l.place l.set)
