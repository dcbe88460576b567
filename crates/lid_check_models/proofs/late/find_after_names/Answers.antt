use Rattle.std.proofs.Common.{◌∙◌, ap}
use Rattle.lid_design.specs.declared.Design.{Design}
use Rattle.lid_base.proofs.Results.{if_ok}
use Rattle.lid_check_rules.specs.Conditions.{two_clocks, other_edge, mixed_edges}
use Rattle.lid_check_rules.specs.Edges.{typed_of, typed_in}
use Rattle.lid_check_models.specs.Late.{after_names, after_clocks, after_edges}
use Rattle.lid_check_rules.proofs.Faults.{told_first, told_later}
use Rattle.lid_check_models.proofs.late.find_after_names.Goals as goal

pub returns-in-Some : goal.returns-in-Some
unfolding after_names
returns-in-Some c = told_first (two_clocks c.args.ports.now) (after_clocks c.args.ports.now c.args.reached.now) _ _ c.in-Some.is c.in_ok-told.ensures

pub returns-in-Some-2 : goal.returns-in-Some-2
unfolding after_names after_clocks mixed_edges typed_in
returns-in-Some-2 c =
    let same = ap (λ (d : Design). other_edge (typed_of d c.args.reached.now)) (c.design.ensures.same ∙ c.survey.ensures) in
    told_first (other_edge (typed_of c.args.ports.now c.args.reached.now)) (after_edges c.args.ports.now) _ _ c.in-Some-2.is (c.in_ok-told-2.ensures ∙ same)
    ∙ told_later (two_clocks c.args.ports.now) (after_clocks c.args.ports.now c.args.reached.now) _ c.in_default.is c.in_ok-told.ensures

pub returns-in-None : goal.returns-in-None
unfolding after_names after_clocks mixed_edges typed_in
returns-in-None c =
    let same = ap (λ (d : Design). other_edge (typed_of d c.args.reached.now)) (c.design.ensures.same ∙ c.survey.ensures) in
    let rest = told_later (other_edge (typed_of c.args.ports.now c.args.reached.now)) (after_edges c.args.ports.now) _ c.in-None.is (c.in_ok-told-2.ensures ∙ same)
    ∙ told_later (two_clocks c.args.ports.now) (after_clocks c.args.ports.now c.args.reached.now) _ c.in_default.is c.in_ok-told.ensures in
    if_ok c.find_after_edges.result (λ told e. e ∙ rest) c.find_after_edges.ensures
