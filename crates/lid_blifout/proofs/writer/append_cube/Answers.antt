use Rattle.std.proofs.Common.{◌≡◌, ◌∷◌, [], ◌++◌, List, ℕ, ap, sym, ◌∙◌}
use Rattle.lid_base_lines.specs.Texts.{line_text}
use Rattle.lid_blifout.specs.Canonical.{output_word, cube_line}
use Rattle.lid_blifout.specs.Pieces.{asked_text}
use Rattle.lid_base.proofs.Results.{on_ok}
use Rattle.lid_blifout.proofs.Lines.{cube_text}
use Rattle.lid_base.proofs.Lists.{appended}
use Rattle.lid_blifout.proofs.writer.append_cube.Goals as goal

pub returns-clause-ok : goal.returns-clause-ok
returns-clause-ok c =
    let old = c.args.into.now.items in
    let new = c.append_output.new.into.items in
    let cube = c.args.cube.now in
    on_ok {P = new ≡ c.append_asked.new.into.items ++ (output_word c.args.on ++ 10 ∷ [])} {Q = new ≡ old ++ line_text (cube_line c.args.inputs c.args.on cube)} c.append_output.result
    (λ e. appended old c.append_asked.new.into.items new (asked_text c.args.inputs cube) (output_word c.args.on ++ 10 ∷ []) c.in_ok-append_asked.ensures.ok e
    ∙ ap (λ (bytes : List ℕ). old ++ bytes) (sym (cube_text c.args.inputs c.args.on cube)))
    c.append_output.ensures.ok
