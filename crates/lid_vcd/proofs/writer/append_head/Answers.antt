use Rattle.std.proofs.Common.{◌∷◌, []}
use Rattle.lid_vcd_form.specs.Text.{declarations, timescale_words, scope_words, upscope_words, definitions_words, head_lines}
use Rattle.lid_base.proofs.Results.{on_ok}
use Rattle.lid_vcd.proofs.Parts.{three}
use Rattle.lid_vcd.proofs.writer.append_head.Goals as goal

pub returns-clause-ok : goal.returns-clause-ok
unfolding head_lines
returns-clause-ok c =
    on_ok c.append_closing.result
    (three c.args.into.now.items _ _ _ (timescale_words ∷ scope_words ∷ []) (declarations 0 c.args.variables) (upscope_words ∷ definitions_words ∷ [])
    c.in_ok-append_opening.ensures.ok c.in_ok-append_declarations.ensures.ok)
    c.append_closing.ensures.ok
