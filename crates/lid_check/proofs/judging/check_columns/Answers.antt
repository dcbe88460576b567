use Rattle.std.proofs.Common.{◌≡◌, ◌⊎◌, subst}
use Rattle.lid_design.specs.declared.Design.{Design}
use Rattle.lid_check_rules.specs.declared.fault.CheckFault.TheVariants.{Memory}
use Rattle.lid_check.specs.Acceptance.{IsRefusal}
use Rattle.lid_check.proofs.judging.check_columns.Goals as goal

pub returns-in-Err-clause-err : goal.returns-in-Err-clause-err
returns-in-Err-clause-err c = subst (λ (d : Design). (c.in-Err.fault ≡ Memory) ⊎ IsRefusal d c.in-Err.fault) c.in_ok-columns.ensures c.in-Err.ensures.err
