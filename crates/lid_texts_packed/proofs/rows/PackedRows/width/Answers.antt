use Rattle.std.proofs.Common.{◌<◌, ℕ, [], length, get_or, sym, ◌∙◌, ap, subst}
use Rattle.lid_texts_packed.specs.Rows.{WideRows}
use Rattle.lid_texts_packed.proofs.Widths.{rows_count, row_wide}
use Rattle.lid_texts_packed.proofs.rows.PackedRows.width.Goals as goal

pub returns-clause-wide : goal.returns-clause-wide
returns-clause-wide c row less =
    let words = c.self.inside.words.items in
    let width = c.self.inside.width in
    let count = c.self.inside.count in
    let below : row < count = subst (λ (n : ℕ). row < n) (sym (ap (λ (w : WideRows). length w.rows) c.self.view_is) ∙ rows_count words width count) less in
    sym (row_wide words width count row below) ∙ ap (λ (w : WideRows). length (get_or w.rows row [])) c.self.view_is
