use Rattle.std.proofs.Common.{sym, ◌∙◌, subst}
use Rattle.lid_design.specs.Models.{HasNoRecursion, IsFirstRecursive}
use Rattle.lid_check_hierarchy.specs.Surveys.{AreKnown, IsSurveyFault}
use Rattle.lid_check.proofs.Sound.{judged_of}
use Rattle.lid_emit.proofs.size.survey_of.Goals as goal

pub survey_models-requires : goal.survey_models-requires
survey_models-requires c = subst AreKnown (sym (c.in_ok-uses.ensures ∙ c.design.ensures.same)) (judged_of c.args.checked.now c.design.ensures.formed c.design.ensures.accepted.models).known

pub returns-in-Ok-clause-known : goal.returns-in-Ok-clause-known
returns-in-Ok-clause-known c = (judged_of c.args.checked.now c.design.ensures.formed c.design.ensures.accepted.models).known

pub unreachable-requires : goal.unreachable-requires
unreachable-requires c =
    let uses = c.in_ok-uses.uses in
    let k = c.in-Err-Recursive.field-0-0 in
    let first : IsFirstRecursive uses k = subst (IsSurveyFault uses) c.in-Err-Recursive.field-0-is c.in-Err-Recursive.ensures.err in
    let flat : HasNoRecursion uses = subst HasNoRecursion (sym (c.in_ok-uses.ensures ∙ c.design.ensures.same)) c.design.ensures.accepted.models.flat in
    flat k first.reached first.itself
