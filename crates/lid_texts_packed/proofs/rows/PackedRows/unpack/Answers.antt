use Rattle.std.proofs.Common.{◌≡◌, ℕ, ◌<◌, Bool, List, [], ◌∷◌, ◌++◌, length, take, get_or, sym, ◌∙◌, ap, arith}
use Rattle.std.proofs.lemmas.List.{take_more}
use Rattle.std.proofs.Math.Seq.{take-length}
use Rattle.lid_base.proofs.Lists.{refilled}
use Rattle.lid_texts_packed.specs.Rows.{WideRows}
use Rattle.lid_texts_packed.proofs.Widths.{rows_count, row_wide}
use Rattle.lid_texts_packed.proofs.rows.PackedRows.unpack.Goals as goal

pub read-requires-clause-row : goal.read-requires-clause-row
read-requires-clause-row c =
    let p = c.self.inside in
    let count = rows_count p.words.items p.width p.count in
    let same = ap (λ (v : WideRows). length v.rows) c.self.view_is in
    omega (arith, c.loop-row-test.true)

pub loop-row-preserved : goal.loop-row-preserved
loop-row-preserved c =
    let rows = c.args.self.now.rows in
    let t = c.loop-row.row in
    let p = c.self.inside in
    let count = rows_count p.words.items p.width p.count in
    let same = ap (λ (v : WideRows). length v.rows) c.self.view_is in
    let inside : t < p.count = c.loop-row-test.true in
    let wide : length c.read.new.into ≡ p.width = ap (λ (r : List Bool). length r) (c.read.ensures ∙ ap (λ (v : WideRows). get_or v.rows t []) (sym c.self.view_is)) ∙ row_wide p.words.items p.width p.count t inside in
    let long : length c.read.new.into ≡ c.in_ok-bits.bits.len = wide ∙ sym c.in_ok-bits.ensures.len in
    c.in_ok-push.ensures.items
    ∙ ap (λ (xs : List (List Bool)). xs ++ c.from_vec.result ∷ []) c.loop-row.invariant
    ∙ ap (λ (x : List Bool). take t rows ++ x ∷ []) (c.from_vec.ensures ∙ refilled c.in_ok-bits.bits.len c.read.new.into c.in_ok-bits.bits.items long ∙ c.read.ensures)
    ∙ sym (take_more rows t [] (omega (arith, c.loop-row-test.true)))

pub returns : goal.returns
returns c =
    let p = c.self.inside in
    let count = rows_count p.words.items p.width p.count in
    let same = ap (λ (v : WideRows). length v.rows) c.self.view_is in
    let rows = c.args.self.now.rows in
    let all : c.loop-row.row ≡ length rows = omega (arith, c.loop-row-test.false, c.loop-row.auto.row-end) in
    c.loop-row.invariant ∙ ap (λ (n : ℕ). take n rows) all ∙ take-length rows
