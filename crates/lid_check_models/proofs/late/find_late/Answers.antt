use Rattle.std.proofs.Common.{◌∙◌, subst}
use Rattle.lid_design.specs.declared.Design.{Design}
use Rattle.lid_design.specs.Models.{AreReached}
use Rattle.lid_base.proofs.Results.{if_ok}
use Rattle.lid_check_models.specs.Late.{after_insts, after_names}
use Rattle.lid_check_rules.specs.Names.{by_names}
use Rattle.lid_check_rules.specs.Rules.{by_insts}
use Rattle.lid_check_rules.proofs.Faults.{told_first, told_later}
use Rattle.lid_check_models.proofs.Passing.{three, late_of}
use Rattle.lid_check_models.proofs.late.find_late.Goals as goal

pub returns-in-Some : goal.returns-in-Some
returns-in-Some c ks are =
    let reached = subst (λ (d : Design). AreReached d c.reached-reached.result.now) c.survey.ensures c.reached-reached.ensures in
    told_first (by_insts c.args.ports.now c.reached-reached.result.now three) (after_insts c.args.ports.now c.reached-reached.result.now) _ _ c.in-Some.is c.in_ok-told.ensures
    ∙ late_of c.args.ports.now c.reached-reached.result.now ks reached are

pub returns-in-Some-2 : goal.returns-in-Some-2
unfolding after_insts
returns-in-Some-2 c ks are =
    let reached = subst (λ (d : Design). AreReached d c.reached-reached.result.now) c.survey.ensures c.reached-reached.ensures in
    told_first (by_names c.args.ports.now c.reached-reached.result.now) (after_names c.args.ports.now c.reached-reached.result.now) _ _ c.in-Some-2.is c.in_ok-told-2.ensures
    ∙ told_later (by_insts c.args.ports.now c.reached-reached.result.now three) (after_insts c.args.ports.now c.reached-reached.result.now) _ c.in_default.is c.in_ok-told.ensures
    ∙ late_of c.args.ports.now c.reached-reached.result.now ks reached are

pub returns-in-None : goal.returns-in-None
unfolding after_insts
returns-in-None c =
    let reached = subst (λ (d : Design). AreReached d c.reached-reached.result.now) c.survey.ensures c.reached-reached.ensures in
    let rest = told_later (by_names c.args.ports.now c.reached-reached.result.now) (after_names c.args.ports.now c.reached-reached.result.now) _ c.in-None.is c.in_ok-told-2.ensures
    ∙ told_later (by_insts c.args.ports.now c.reached-reached.result.now three) (after_insts c.args.ports.now c.reached-reached.result.now) _ c.in_default.is c.in_ok-told.ensures in
    if_ok c.find_after_names.result (λ told e ks are. e ∙ rest ∙ late_of c.args.ports.now c.reached-reached.result.now ks reached are) c.find_after_names.ensures
