use Rattle.std.proofs.Common.{ℕ, ◌≤◌, List, length, sym, ◌∙◌, subst}
use Rattle.lid_check.proofs.Widths.{few_inputs}
use Rattle.lid_check.proofs.checked.Checked.inputs.Goals as goal

pub returns-clause-few : goal.returns-clause-few
returns-clause-few c =
    subst (λ (names : List (List ℕ)). length names ≤ 1048576) (sym (c.as_slice.ensures ∙ c.self.invariant.inputs))
    (few_inputs c.self.inside.design c.self.invariant.formed c.self.invariant.accepted.models)
