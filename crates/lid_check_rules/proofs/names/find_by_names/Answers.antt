use Rattle.std.proofs.Common.{ap, ◌∙◌}
use Rattle.lid_check_rules.specs.Names.{first_by_rules}
use Rattle.lid_check_rules.proofs.Telling.{told_by_rules}
use Rattle.lid_check_rules.proofs.names.find_by_names.Goals as goal

pub returns : goal.returns
returns c =
    c.first_by_rules.ensures
    ∙ ap first_by_rules c.as_slice.ensures.value
    ∙ told_by_rules c.args.ports.now c.args.reached.now c.in_ok-findings.findings.items c.in_ok-findings.ensures
