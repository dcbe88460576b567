use denote.Ref.{Bor}
use Rattle.std.proofs.Common.{◌≡◌, ℕ, List, true, false, Some, option_map, sym, ap, subst, ◌∙◌}
use Rattle.std.proofs.lemmas.Option.{same_Some}
use Rattle.lid_check_rules.specs.Conditions.{is_misused}
use Rattle.lid_check_rules.proofs.names.is_used_at.Goals as goal

pub returns-in-Some : goal.returns-in-Some
returns-in-Some c used name here =
    let read : Some c.in-Some.name.now ≡ Some name = sym (ap (option_map (λ (r : Bor (List ℕ)). r.now)) c.in-Some.is) ∙ c.name_at.ensures ∙ here in
    subst (λ (n : List ℕ). is_misused c.args.ports.now c.args.nets.now.table.now n ≡ false) (same_Some c.in-Some.name.now name read) (c.is_used.ensures used)

pub returns-in-None : goal.returns-in-None
returns-in-None c h name here = absurd (let f : false ≡ true = h in cc)
