use denote.Ref.{Bor}
use Rattle.std.proofs.Common.{◌≡◌, ℕ, List, Some, None, option_map, sym, ap, ◌∙◌}
use Rattle.std.proofs.lemmas.Option.{same_Some}
use Rattle.lid_check_rules.specs.Conditions.{is_misused}
use Rattle.lid_check_rules.proofs.names.is_misused_at.Goals as goal

pub is_misused-requires-clause-name : goal.is_misused-requires-clause-name
is_misused-requires-clause-name c = sym c.name_at.ensures ∙ ap (option_map (λ (r : Bor (List ℕ)). r.now)) c.in-Some.is

pub returns-in-Some : goal.returns-in-Some
returns-in-Some c name here =
    let own = c.in-Some.name.now in
    let read : Some own ≡ Some name = sym (ap (option_map (λ (r : Bor (List ℕ)). r.now)) c.in-Some.is) ∙ c.name_at.ensures ∙ here in
    c.is_misused.ensures ∙ ap (is_misused c.args.ports.now c.args.nets.now.table.now) (same_Some own name read)

pub returns-in-None : goal.returns-in-None
returns-in-None c name here =
    let none : None ≡ Some name = sym (ap (option_map (λ (r : Bor (List ℕ)). r.now)) c.in-None.is) ∙ c.name_at.ensures ∙ here in
    absurd cc
