use Rattle.std.proofs.Common.{◌≡◌, ℕ, List, [], ◌∷◌, ◌++◌, cond, true, sym, ◌∙◌, ap}
use Rattle.std.specs.Prelude.{bytes_eq}
use Rattle.std.specs.List.{list_any}
use Rattle.std.specs.Borrow.{Bor}
use Rattle.lid_blif.specs.declared.keyword.Keyword.TheVariants.{Model}
use Rattle.lid_base.specs.Words.{word_at}
use Rattle.lid_blif.specs.Words.{is_line}
use Rattle.lid_blif.specs.Faults.{model_names}
use Rattle.lid_blif.proofs.Naming.{list_any_push}
use Rattle.lid_blif.proofs.scan.remember.Goals as goal

pub returns-in_ok-insert : goal.returns-in_ok-insert
returns-in_ok-insert c =
    λ before h name.
    let q : Bor (List ℕ) = record { ref_ptr = (0, 0); now = name } in
    let step = c.in_ok-insert.ensures.updates.0 q in
    let inner : is_line Model c.args.line.now ≡ true = sym c.is_line.ensures ∙ c.if-is_line.true in
    let known : c.word_at.result.now ≡ word_at c.args.line.now.words 1 = cc in
    rw inner
    (step
    ∙ ap (cond (bytes_eq c.word_at.result.now name) true) (h name)
    ∙ list_any_push (λ other. bytes_eq other name) (model_names before) c.word_at.result.now
    ∙ ap (λ word. list_any (λ other. bytes_eq other name) (model_names before ++ word ∷ [])) known)
