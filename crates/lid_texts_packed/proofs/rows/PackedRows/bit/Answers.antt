use Rattle.std.proofs.Common.{◌≡◌, ◌+◌, ◌*◌, ◌/◌, ◌<◌, ℕ, false, [], length, get_or, ◌∙◌, ap, arith}
use Rattle.std.proofs.lemmas.List.{get_or_default}
use Rattle.lid_texts_packed.specs.Bits.{words_for}
use Rattle.lid_texts_packed.specs.Rows.{WideRows}
use Rattle.lid_texts_packed.proofs.Widths.{rows_count, word_within, bit_is}
use Rattle.lid_texts_packed.proofs.rows.PackedRows.bit.Goals as goal

pub overflow_mul-row : goal.overflow_mul-row
overflow_mul-row c =
    let p = c.self.inside in
    let same = ap (λ (v : WideRows). length v.rows) c.self.view_is in
    let count = rows_count p.words.items p.width p.count in
    let width : p.width ≡ c.args.self.now.width = ap (λ (v : WideRows). v.width) c.self.view_is in
    let start : c.args.row * p.span ≡ c.args.row * words_for p.width = ap (λ (n : ℕ). c.args.row * n) c.self.invariant.0 in
    let ends : p.count * p.span ≡ p.count * words_for p.width = ap (λ (n : ℕ). p.count * n) c.self.invariant.0 in
    let less : c.args.row < p.count = omega (arith, c.requires.row, same, count) in
    let inside : c.args.place < p.width = omega (arith, c.requires.place, width) in
    let within = word_within c.args.row p.count c.args.place p.width less inside in
    let long = p.words.ok.0 in
    omega (arith, within, start, ends, c.self.invariant.1, long)

pub overflow_add-row : goal.overflow_add-row
overflow_add-row c =
    let p = c.self.inside in
    let same = ap (λ (v : WideRows). length v.rows) c.self.view_is in
    let count = rows_count p.words.items p.width p.count in
    let width : p.width ≡ c.args.self.now.width = ap (λ (v : WideRows). v.width) c.self.view_is in
    let start : c.args.row * p.span ≡ c.args.row * words_for p.width = ap (λ (n : ℕ). c.args.row * n) c.self.invariant.0 in
    let ends : p.count * p.span ≡ p.count * words_for p.width = ap (λ (n : ℕ). p.count * n) c.self.invariant.0 in
    let less : c.args.row < p.count = omega (arith, c.requires.row, same, count) in
    let inside : c.args.place < p.width = omega (arith, c.requires.place, width) in
    let within = word_within c.args.row p.count c.args.place p.width less inside in
    let long = p.words.ok.0 in
    omega (arith, within, start, ends, c.self.invariant.1, long)

pub index-requires : goal.index-requires
index-requires c =
    let p = c.self.inside in
    let same = ap (λ (v : WideRows). length v.rows) c.self.view_is in
    let count = rows_count p.words.items p.width p.count in
    let width : p.width ≡ c.args.self.now.width = ap (λ (v : WideRows). v.width) c.self.view_is in
    let start : c.args.row * p.span ≡ c.args.row * words_for p.width = ap (λ (n : ℕ). c.args.row * n) c.self.invariant.0 in
    let ends : p.count * p.span ≡ p.count * words_for p.width = ap (λ (n : ℕ). p.count * n) c.self.invariant.0 in
    let less : c.args.row < p.count = omega (arith, c.requires.row, same, count) in
    let inside : c.args.place < p.width = omega (arith, c.requires.place, width) in
    let within = word_within c.args.row p.count c.args.place p.width less inside in
    omega (arith, within, start, ends, c.self.invariant.1)

pub returns : goal.returns
returns c =
    let p = c.self.inside in
    let same = ap (λ (v : WideRows). length v.rows) c.self.view_is in
    let count = rows_count p.words.items p.width p.count in
    let width : p.width ≡ c.args.self.now.width = ap (λ (v : WideRows). v.width) c.self.view_is in
    let start : c.args.row * p.span ≡ c.args.row * words_for p.width = ap (λ (n : ℕ). c.args.row * n) c.self.invariant.0 in
    let ends : p.count * p.span ≡ p.count * words_for p.width = ap (λ (n : ℕ). p.count * n) c.self.invariant.0 in
    let less : c.args.row < p.count = omega (arith, c.requires.row, same, count) in
    let inside : c.args.place < p.width = omega (arith, c.requires.place, width) in
    let within = word_within c.args.row p.count c.args.place p.width less inside in
    let words = p.words.items in
    let there : c.args.row * p.span + c.args.place / 64 < length words = omega (arith, within, start, ends, c.self.invariant.1) in
    let is : c.index.result.now ≡ get_or words (c.args.row * words_for p.width + c.args.place / 64) 0 =
    c.index.ensures ∙ get_or_default words (c.args.row * p.span + c.args.place / 64) c.index.result.now 0 there ∙ ap (λ (n : ℕ). get_or words (n + c.args.place / 64) 0) start in
    bit_is words p.width p.count c.args.row less c.args.place c.index.result.now inside is
    ∙ ap (λ (v : WideRows). get_or (get_or v.rows c.args.row []) c.args.place false) c.self.view_is
