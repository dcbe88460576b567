use Rattle.std.proofs.Common.{length, sym, ◌∙◌, ap}
use Rattle.lid_texts_packed.specs.Rows.{WideRows}
use Rattle.lid_texts_packed.proofs.Widths.{rows_count}
use Rattle.lid_texts_packed.proofs.rows.PackedRows.len.Goals as goal

pub returns : goal.returns
returns c =
    let p = c.self.inside in
    sym (rows_count p.words.items p.width p.count) ∙ ap (λ (v : WideRows). length v.rows) c.self.view_is
