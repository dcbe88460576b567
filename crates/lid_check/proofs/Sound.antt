-- A design whose models pass the conditions is judged.
use Rattle.lid_design.specs.declared.Design.{Design}
use Rattle.lid_design.specs.WellFormed.{IsWellFormed}
use Rattle.lid_check_hierarchy.specs.Surveys.{AreKnown}
use Rattle.lid_check_rules.specs.Conditions.{duplicate_name, unknown_model}
use Rattle.lid_check_rules.specs.Acceptance.{ModelsPass, fault_before_recursion}
use Rattle.lid_check_rules.proofs.Passing.{known_by}
use Rattle.lid_check_drivers.specs.Judged.{IsJudged}
use Rattle.lid_check_drivers.proofs.Passing.{or_none}
use Rattle.lid_check.proofs.Levels.{model_order}

known_of : (d : Design) → ModelsPass d → AreKnown d
unfolding fault_before_recursion
known_of d pass = known_by d pass.ks pass.reached (or_none (duplicate_name d pass.ks) (unknown_model d pass.ks) pass.before).1

pub judged_of : (d : Design) → IsWellFormed d → ModelsPass d → IsJudged d
judged_of d formed pass =
    let order = model_order d formed pass.flat pass.ks pass.reached in
    record { formed = formed; order = order.0; ordered = order.1; known = known_of d pass; pass = pass }
