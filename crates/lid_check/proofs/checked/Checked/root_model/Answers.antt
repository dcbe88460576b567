use Rattle.std.proofs.Common.{◌≤◌, length, subst}
use Rattle.lid_design.specs.declared.Design.{Design}
use Rattle.lid_design.specs.Columns.{root_outputs}
use Rattle.lid_check.proofs.Widths.{few_outputs}
use Rattle.lid_check.proofs.checked.Checked.root_model.Goals as goal

pub returns-clause-few : goal.returns-clause-few
returns-clause-few c =
    subst (λ (d : Design). length (root_outputs d) ≤ 1048576) c.self.view_is
    (few_outputs c.self.inside.design c.self.invariant.formed c.self.invariant.accepted.models)
