use Rattle.std.proofs.Common.{◌≡◌, ◌++◌, map, drop}
use Rattle.lid_check_rules.specs.declared.names.NameRule.{NameRule}
use Rattle.lid_check_rules.specs.Names.{told_by, name_at}
use Rattle.lid_check_rules.proofs.names.list_findings.Given as goal

abbrev pub invariant-loop-k : goal.invariant-loop-k
invariant-loop-k l = (rule : NameRule) → map (told_by rule) l.list.items ++ map (name_at rule l.ports) (drop l.k-index l.reached) ≡ map (name_at rule l.ports) l.reached
