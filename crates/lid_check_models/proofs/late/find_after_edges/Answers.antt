use Rattle.std.proofs.Common.{◌∙◌, ap}
use Rattle.lid_base.proofs.Results.{if_ok}
use Rattle.lid_check_rules.specs.Conditions.{root_logic, limits}
use Rattle.lid_check_models.specs.Late.{after_edges}
use Rattle.lid_check_rules.proofs.Faults.{told_first, told_later}
use Rattle.lid_check_models.proofs.late.find_after_edges.Goals as goal

pub returns-in-Some : goal.returns-in-Some
unfolding after_edges
returns-in-Some c = told_first (root_logic c.args.ports.now) (limits c.args.ports.now) _ _ c.in-Some.is c.find_root_logic.ensures

pub returns-in-None : goal.returns-in-None
unfolding after_edges
returns-in-None c = if_ok c.find_limit.result (λ told e. e ∙ ap limits c.survey.ensures ∙ told_later (root_logic c.args.ports.now) (limits c.args.ports.now) _ c.in-None.is c.find_root_logic.ensures) c.find_limit.ensures
