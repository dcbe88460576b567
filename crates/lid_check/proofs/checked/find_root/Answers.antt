use Rattle.std.proofs.Common.{ℕ, List, Option, sym, ◌∙◌, ap, option_map, position}
use denote.Ref.{Bor}
use Rattle.std.specs.Str.{bytes_eq}
use Rattle.lid_design.specs.declared.Model.{Model}
use Rattle.lid_check.specs.Acceptance.{rooted_at, with_root}
use Rattle.lid_check.proofs.checked.find_root.Goals as goal

pub returns-in-Some : goal.returns-in-Some
returns-in-Some c =
    ap (option_map (rooted_at c.args.design.now)) c.find_model.ensures
    ∙ ap (λ (ms : List Model). option_map (rooted_at c.args.design.now) (position (λ (m : Model). bytes_eq m.name c.in-Some.name.now) ms)) c.as_slice.ensures
    ∙ ap (λ (o : Option (Bor (List ℕ))). with_root c.args.design.now (option_map (λ (r : Bor (List ℕ)). r.now) o)) (sym c.in-Some.is)
