use Rattle.std.proofs.Common.{◌≡◌, ℕ, ◌+◌, ◌*◌, ◌/◌, ◌<◌, ◌≤◌, false, [], length, get_or, sym, ◌∙◌, ap, arith}
use Rattle.std.proofs.lemmas.List.{ext_get_or, get_or_default, length-set}
use Rattle.lid_texts_packed.specs.Bits.{words_for}
use Rattle.lid_texts_packed.specs.Rows.{WideRows}
use Rattle.lid_texts_packed.proofs.Widths.{rows_count, row_wide, span_within, bit_is, written}
use Rattle.lid_texts_packed.proofs.rows.PackedRows.read.Goals as goal

pub overflow_mul-row : goal.overflow_mul-row
overflow_mul-row c =
    let p = c.self.inside in
    let same = ap (λ (v : WideRows). length v.rows) c.self.view_is in
    let count = rows_count p.words.items p.width p.count in
    let less : c.args.row < p.count = omega (arith, c.requires.row, same, count) in
    let within = span_within c.args.row p.count c.loop-k.k p.span less c.loop-k-test.true in
    let long = p.words.ok.0 in
    omega (arith, within, c.self.invariant.1, long)

pub overflow_add-row : goal.overflow_add-row
overflow_add-row c =
    let p = c.self.inside in
    let same = ap (λ (v : WideRows). length v.rows) c.self.view_is in
    let count = rows_count p.words.items p.width p.count in
    let less : c.args.row < p.count = omega (arith, c.requires.row, same, count) in
    let within = span_within c.args.row p.count c.loop-k.k p.span less c.loop-k-test.true in
    let long = p.words.ok.0 in
    omega (arith, within, c.self.invariant.1, long)

pub index-word-requires : goal.index-word-requires
index-word-requires c =
    let p = c.self.inside in
    let same = ap (λ (v : WideRows). length v.rows) c.self.view_is in
    let count = rows_count p.words.items p.width p.count in
    let less : c.args.row < p.count = omega (arith, c.requires.row, same, count) in
    let within = span_within c.args.row p.count c.loop-k.k p.span less c.loop-k-test.true in
    omega (arith, within, c.self.invariant.1)

pub loop-place-preserved : goal.loop-place-preserved
loop-place-preserved c =
    let p = c.self.inside in
    let same = ap (λ (v : WideRows). length v.rows) c.self.view_is in
    let count = rows_count p.words.items p.width p.count in
    let less : c.args.row < p.count = omega (arith, c.requires.row, same, count) in
    let within = span_within c.args.row p.count c.loop-k.k p.span less c.loop-k-test.true in
    let words = p.words.items in
    let place = c.loop-place.place in
    let into = c.loop-place.into in
    let word = c.index-word.result.now in
    let low : 64 * c.loop-k.k ≤ place = c.loop-place.invariant.1 in
    let width : c.args.self.now.width ≡ p.width = sym (ap (λ (v : WideRows). v.width) c.self.view_is) in
    let many : length into ≡ p.width = c.loop-place.invariant.0 ∙ c.requires.wide ∙ width in
    let part : c.loop-k.k < words_for p.width = omega (arith, c.loop-k-test.true, c.self.invariant.0) in
    let inside : place < p.width = grind (arith, c.loop-place-test.true, c.min.ensures, part) in
    let near : place < 64 * c.loop-k.k + 64 = grind (arith, c.loop-place-test.true, c.min.ensures) in
    let there : c.args.row * p.span + c.loop-k.k < length words = omega (arith, within, c.self.invariant.1) in
    let start : c.args.row * p.span ≡ c.args.row * words_for p.width = ap (λ (n : ℕ). c.args.row * n) c.self.invariant.0 in
    let at : c.args.row * p.span + c.loop-k.k ≡ c.args.row * words_for p.width + place / 64 = omega (arith, start, low, near) in
    let is : word ≡ get_or words (c.args.row * words_for p.width + place / 64) 0 =
    c.index-word.ensures ∙ get_or_default words (c.args.row * p.span + c.loop-k.k) word 0 there ∙ ap (λ (n : ℕ). get_or words n 0) at in
    let bit = bit_is words p.width p.count c.args.row less place word inside is ∙ ap (λ (v : WideRows). get_or (get_or v.rows c.args.row []) place false) c.self.view_is in (
      length-set into place _ ∙ c.loop-place.invariant.0,
      omega (arith, low),
      written into (get_or c.args.self.now.rows c.args.row []) place _ (omega (arith, inside, many)) bit c.loop-place.invariant.2,
    )

pub returns : goal.returns
returns c =
    let p = c.self.inside in
    let count = rows_count p.words.items p.width p.count in
    let same = ap (λ (v : WideRows). length v.rows) c.self.view_is in
    let row = get_or c.args.self.now.rows c.args.row [] in
    let width : c.args.self.now.width ≡ p.width = sym (ap (λ (v : WideRows). v.width) c.self.view_is) in
    let wide : length row ≡ p.width = ap (λ (v : WideRows). length (get_or v.rows c.args.row [])) (sym c.self.view_is) ∙ row_wide p.words.items p.width p.count c.args.row (omega (arith, c.requires.row, same, count)) in
    let all : length c.args.into.now ≡ p.width = c.requires.wide ∙ width in
    let many : length c.loop-k.into ≡ p.width = c.loop-k.invariant.0 ∙ all in
    let ends : p.width ≤ 64 * c.loop-k.k = omega (arith, c.loop-k-test.false, c.self.invariant.0) in
    ext_get_or false c.loop-k.into row (many ∙ sym wide) (λ j less. c.loop-k.invariant.1 j (omega (arith, less, many, ends)) (omega (arith, less, many, all)))
