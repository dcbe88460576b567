use Rattle.std.proofs.Common.{◌++◌, ℕ, List, ◌∙◌, ap}
use Rattle.lid_base_lines.specs.Texts.{line_text}
use Rattle.lid_texts.specs.Rows.{header_words}
use Rattle.lid_texts_packed.proofs.Writing.{printed_none}
use Rattle.lid_texts_packed.proofs.writer.RowsPrinter.new.Goals as goal

pub returns-clause-printed : goal.returns-clause-printed
returns-clause-printed c =
    let columns = c.args.columns.now in
    c.in_ok-append_header.ensures.ok ∙ ap (λ (text : List ℕ). text ++ line_text (header_words columns)) c.new-text.ensures.items ∙ printed_none columns
