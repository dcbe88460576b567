use Rattle.std.proofs.Common.{◌≡◌, ◌⊎◌, IfErr, ◌∙◌, subst}
use Rattle.lid_design.specs.declared.Design.{Design}
use Rattle.lid_check_rules.specs.declared.fault.CheckFault.TheVariants.{Memory}
use Rattle.lid_check.specs.Acceptance.{IsRefusal}
use Rattle.lid_check.proofs.judging.accept.Goals as goal

pub returns-clause-err : goal.returns-clause-err
returns-clause-err c = subst (λ (d : Design). IfErr c.check_columns.result (λ fault. (fault ≡ Memory) ⊎ IsRefusal d fault)) (c.judge-judged.ensures ∙ c.in_ok-survey.ensures.ok) c.check_columns.ensures.err
