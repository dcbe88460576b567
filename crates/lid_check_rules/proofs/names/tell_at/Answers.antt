use denote.Ref.{Bor}
use Rattle.std.proofs.Common.{◌≡◌, ℕ, List, Some, None, option_map, sym, ap, ◌∙◌}
use Rattle.std.proofs.lemmas.Option.{same_Some}
use Rattle.lid_design.specs.declared.Model.{Model}
use Rattle.lid_check_rules.specs.Names.{told_name}
use Rattle.lid_check_rules.proofs.names.tell_at.Goals as goal

pub returns-in-Some : goal.returns-in-Some
returns-in-Some c name here =
    let read : Some c.in-Some.name.now ≡ Some name = sym (ap (option_map (λ (r : Bor (List ℕ)). r.now)) c.in-Some.is) ∙ c.name_at.ensures ∙ here in
    let model = c.as_slice.ensures ∙ ap (λ (m : Model). m.name) c.model.ensures in
    ap Some
    (c.tell_name.ensures
    ∙ ap (λ (n : List ℕ). told_name c.args.rule n c.in-Some.name.now) model
    ∙ ap (told_name c.args.rule c.args.nets.now.table.now.name) (same_Some c.in-Some.name.now name read))

pub returns-in-None : goal.returns-in-None
returns-in-None c name here =
    let none : None ≡ Some name = sym (ap (option_map (λ (r : Bor (List ℕ)). r.now)) c.in-None.is) ∙ c.name_at.ensures ∙ here in
    absurd cc
