use Rattle.std.proofs.Common.{◌≡◌, ◌∷◌, ◌++◌, List, ℕ, ap, ◌∙◌, ◌<◌, length, arith}
use Rattle.std.proofs.lemmas.Grind.{common_steps}
use Rattle.lid_base.proofs.Results.{on_ok}
use Rattle.lid_base_lines.specs.Texts.{line_text, lines_text}
use Rattle.lid_blifout.specs.Canonical.{listed}
use Rattle.lid_blifout.proofs.Lines.{listed_text}
use Rattle.lid_blifout.proofs.writer.append_listed.Goals as goal

pub returns-clause-ok : goal.returns-clause-ok
returns-clause-ok c =
    let old = c.args.into.now.items in
    let new = c.append_keyword_line.new.into.items in
    let names = c.args.names.now in
    let keyword = c.args.keyword.now in
    let some : 0 < length names = grind (arith, common_steps) in
    on_ok {P = new ≡ old ++ line_text (keyword ∷ names)} {Q = new ≡ old ++ lines_text (listed keyword names)} c.append_keyword_line.result
    (λ e. e ∙ ap (λ (bytes : List ℕ). old ++ bytes) (listed_text keyword names some)) c.append_keyword_line.ensures.ok
