use Rattle.std.proofs.Common.{◌≡◌, ℕ, List, take}
use Rattle.lid_check_names.specs.Names.{texts}
use Rattle.lid_check_table.specs.Tables.{names_in}
use Rattle.lid_check_table.specs.Marks.{marks_of}
use Rattle.lid_check_hierarchy.specs.Nets.{names_outside}
use Rattle.lid_check_hierarchy.proofs.inputs.inputs_of.Given as goal

abbrev pub invariant-loop-number : goal.invariant-loop-number
invariant-loop-number l = (clocks : List (List ℕ)) → l.marks ≡ marks_of (names_in l.table) clocks → texts l.names.items ≡ names_outside clocks (take l.number-index l.table.inputs)
