use Rattle.std.proofs.Common.{option_and_then, slice_get, sym, ◌∙◌, ap}
use Rattle.lid_design.specs.declared.Design.{Design}
use Rattle.lid_check_rules.specs.Conditions.{logic_in, root_logic}
use Rattle.lid_check_names.proofs.Numbers.{here_is}
use Rattle.lid_check_rules.proofs.root.find_root_logic.Goals as goal

pub returns-in-Some : goal.returns-in-Some
unfolding root_logic
returns-in-Some c =
    let root = ap (λ (d : Design). d.root) (c.design.ensures.same ∙ c.survey.ensures) in
    let here = sym (ap (slice_get c.args.ports.now.models) root) ∙ here_is _ _ _ c.model.ensures.here c.in-Some.is in
    c.find_root_logic_in.ensures ∙ sym (ap (option_and_then logic_in) here)

pub returns-in-None : goal.returns-in-None
unfolding root_logic
returns-in-None c =
    let root = ap (λ (d : Design). d.root) (c.design.ensures.same ∙ c.survey.ensures) in
    let here = sym (ap (slice_get c.args.ports.now.models) root) ∙ here_is _ _ _ c.model.ensures.here c.in-None.is in
    sym (ap (option_and_then logic_in) here)
