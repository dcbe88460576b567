use Rattle.std.proofs.Common.{option_and_then, sym, ◌∙◌, ap}
use Rattle.lid_check_rules.specs.Names.{name_rule, name_at}
use Rattle.lid_check_rules.proofs.names.findings_at.Goals as goal

pub returns : goal.returns
unfolding name_at
returns c rule = c.tell_each.ensures rule ∙ sym (ap (option_and_then (name_rule rule c.args.ports.now)) c.in_ok-nets.ensures.here)
