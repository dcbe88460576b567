use Rattle.std.proofs.Common.{◌≡◌, drop}
use Rattle.lid_check_rules.specs.Rules.{by_insts}
use Rattle.lid_check_rules.proofs.instances.find_by_rules.Given as goal

abbrev pub invariant-loop-rule : goal.invariant-loop-rule
invariant-loop-rule l = by_insts l.ports l.reached (drop l.rule-index l.rules) ≡ by_insts l.ports l.reached l.rules
