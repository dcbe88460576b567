use Rattle.std.proofs.Common.{option_and_then, sym, ◌∙◌, ap}
use Rattle.lid_base.proofs.Results.{if_ok}
use Rattle.lid_check_names.proofs.Numbers.{here_is}
use Rattle.lid_check_rules.specs.Conditions.{in_insts}
use Rattle.lid_check_rules.specs.Rules.{inst_rule, inst_at}
use Rattle.lid_check_rules.proofs.instances.find_by_rule_at.Goals as goal

pub find_by_rule_in-requires-clause-few : goal.find_by_rule_in-requires-clause-few
find_by_rule_in-requires-clause-few c = c.in-Some.ensures.few

pub returns-in-Some : goal.returns-in-Some
unfolding inst_at
returns-in-Some c =
    if_ok c.find_by_rule_in.result (λ told e. e ∙ sym (ap (option_and_then (λ m. in_insts (inst_rule c.args.rule c.args.ports.now m) m)) (here_is _ _ _ c.model.ensures.here c.in-Some.is))) c.find_by_rule_in.ensures

pub returns-in-None : goal.returns-in-None
unfolding inst_at
returns-in-None c = sym (ap (option_and_then (λ m. in_insts (inst_rule c.args.rule c.args.ports.now m) m)) (here_is _ _ _ c.model.ensures.here c.in-None.is))
