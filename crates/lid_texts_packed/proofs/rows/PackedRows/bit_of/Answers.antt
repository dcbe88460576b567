use Rattle.std.proofs.Common.{◌≡◌, false, [], length, get_or, nat_lt, ◌∙◌, ap, arith}
use Rattle.lid_texts_packed.specs.Rows.{WideRows}
use Rattle.lid_texts_packed.proofs.Widths.{rows_count, no_bit}
use Rattle.lid_texts_packed.proofs.rows.PackedRows.bit_of.Goals as goal

pub returns-else-place-self : goal.returns-else-place-self
returns-else-place-self c =
    let p = c.self.inside in
    let same = ap (λ (v : WideRows). length v.rows) c.self.view_is in
    let count = rows_count p.words.items p.width p.count in
    let past : nat_lt c.args.place p.width ≡ false = grind (arith, c.if-place-self.false) in
    past
    ∙ no_bit p.words.items p.width p.count c.args.row (omega (arith, c.requires, same, count)) c.args.place (omega (arith, c.if-place-self.false))
    ∙ ap (λ (v : WideRows). get_or (get_or v.rows c.args.row []) c.args.place false) c.self.view_is
