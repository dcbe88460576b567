use Rattle.std.proofs.Common.{◌≡◌, IfOk, subst}
use Rattle.lid_design.specs.declared.Model.{Model}
use Rattle.lid_check_ports.specs.Formals.{name_behind}
use Rattle.lid_check_rules.specs.Conditions.{is_duplicate, first_name}
use Rattle.lid_check_rules.proofs.duplicates.first_duplicate.Goals as goal

pub returns : goal.returns
returns c =
    subst (λ (m : Model). IfOk c.first_in_lists.result (λ name. name_behind name ≡ first_name (is_duplicate c.args.is_root m) m)) c.in_ok-lists.ensures c.first_in_lists.ensures
