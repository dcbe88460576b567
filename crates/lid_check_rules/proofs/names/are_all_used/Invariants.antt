use Rattle.std.proofs.Common.{◌≡◌, not, drop}
use Rattle.std.specs.List.{list_all}
use Rattle.lid_check_rules.specs.Conditions.{is_misused}
use Rattle.lid_check_rules.proofs.names.are_all_used.Given as goal

abbrev pub invariant-loop-i : goal.invariant-loop-i
invariant-loop-i l = list_all (λ name. not (is_misused l.ports l.nets.table.now name)) (drop l.i l.names) ≡ list_all (λ name. not (is_misused l.ports l.nets.table.now name)) l.names
