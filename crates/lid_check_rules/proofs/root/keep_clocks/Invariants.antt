use Rattle.std.proofs.Common.{◌≡◌, ℕ, List, filter, take}
use Rattle.lid_check_names.specs.Names.{texts}
use Rattle.lid_check_table.specs.Tables.{names_in, AreNumbersOf}
use Rattle.lid_design.specs.Models.{is_clock_of}
use Rattle.lid_check_rules.proofs.root.keep_clocks.Given as goal

abbrev pub invariant-loop-number : goal.invariant-loop-number
invariant-loop-number l = (names : List (List ℕ)) → AreNumbersOf (names_in l.table) names l.numbers → texts l.clocks.items ≡ filter (is_clock_of l.ports l.k) (take l.number-index names)
