use Rattle.std.proofs.Common.{◌≡◌, ◌⊎◌, ℕ, List, Option, Some, subst, sym}
use Rattle.lid_check_rules.specs.declared.fault.CheckFault.TheVariants as check
use Rattle.lid_check.specs.Acceptance.{with_root, IsRefused}
use Rattle.lid_top_script.specs.Causes.{FailsCheck}
use Rattle.lid_top_script.proofs.Readings.{check_fails}
use Rattle.lid_top_script.proofs.steps.accept.Goals as goal

pub returns-in-Ok-clause-ok : goal.returns-in-Ok-clause-ok
returns-in-Ok-clause-ok c = record {
  rooted = subst (λ (o : Option (List ℕ)). with_root c.args.design o ≡ Some c.in-Ok.checked) c.as_ref.ensures.value c.in-Ok.ensures.ok.0;
  accepted = c.in-Ok.ensures.ok.1;
}

pub returns-in-Err-clause-err : goal.returns-in-Err-clause-err
returns-in-Err-clause-err c =
    let told = subst (λ (o : Option (List ℕ)). (c.in-Err.fault ≡ check.Memory) ⊎ IsRefused (with_root c.args.design o) c.in-Err.fault) c.as_ref.ensures.value c.in-Err.ensures.err in
    subst (λ s. FailsCheck c.args.root.now c.args.design s) (sym c.check_stop.ensures)
    (check_fails c.args.root.now c.args.design c.in-Err.fault told)
