use Rattle.std.proofs.Common.{◌≡◌, drop}
use Rattle.std.specs.List.{enumerate_from}
use Rattle.lid_check_rules.specs.Conditions.{first_told, in_insts}
use Rattle.lid_check_rules.specs.Rules.{inst_rule}
use Rattle.lid_check_rules.proofs.instances.find_by_rule_in.Given as goal

abbrev pub invariant-loop-i : goal.invariant-loop-i
invariant-loop-i l = first_told (λ p. inst_rule l.rule l.ports l.model p.0 p.1) (enumerate_from l.i (drop l.i l.insts)) ≡ in_insts (inst_rule l.rule l.ports l.model) l.model
