use Rattle.std.proofs.Common.{◌≡◌, drop}
use Rattle.lid_check_rules.specs.Rules.{by_inst}
use Rattle.lid_check_rules.proofs.instances.find_by_rule.Given as goal

abbrev pub invariant-loop-k : goal.invariant-loop-k
invariant-loop-k l = by_inst l.rule l.ports (drop l.k-index l.reached) ≡ by_inst l.rule l.ports l.reached
