use Rattle.std.proofs.Common.{ℕ, List, Some, option_map, sym, ◌∙◌, ap}
use Rattle.lid_check_rules.specs.Rules.{told_formal}
use Rattle.lid_check_ports.specs.Formals.{name_behind}
use Rattle.lid_check_rules.proofs.Telling.{rule_by_formal}
use Rattle.lid_check_rules.proofs.instances.find_by_rule_of.Goals as goal

pub returns-in-Some : goal.returns-in-Some
returns-in-Some c =
    let formal = sym (ap name_behind c.in-Some.is) ∙ c.in_ok-formal.ensures in
    ap Some (c.tell_formal.ensures ∙ ap (λ (model : List ℕ). told_formal c.args.rule model c.args.site.inst c.in-Some.formal.now) c.as_slice.ensures)
    ∙ ap (option_map (told_formal c.args.rule c.args.model.now.name c.args.site.inst)) formal
    ∙ sym (rule_by_formal c.args.rule c.args.ports.now c.args.model.now c.args.site.inst c.args.inst.now)

pub returns-in-None : goal.returns-in-None
returns-in-None c =
    let formal = sym (ap name_behind c.in-None.is) ∙ c.in_ok-formal.ensures in
    ap (option_map (told_formal c.args.rule c.args.model.now.name c.args.site.inst)) formal
    ∙ sym (rule_by_formal c.args.rule c.args.ports.now c.args.model.now c.args.site.inst c.args.inst.now)
