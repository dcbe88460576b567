use Rattle.std.proofs.Common.{◌≡◌, ◌+◌, ◌*◌, ℕ, Bool, List, [], ◌∷◌, ◌++◌, length, sym, ◌∙◌, ap, arith}
use Rattle.std.proofs.lemmas.List.{length-append}
use Rattle.lid_base.proofs.Each.{each_length}
use Rattle.lid_texts_packed.specs.Bits.{words_for, word_in, words_of}
use Rattle.lid_texts_packed.specs.Rows.{WideRows, rows_in}
use Rattle.lid_texts_packed.proofs.Widths.{rows_more}
use Rattle.lid_texts_packed.proofs.rows.PackedRows.push.Goals as goal

pub returns-clause-ok : goal.returns-clause-ok
returns-clause-ok c =
    let p = c.self.inside in
    let old = p.words.items in
    let row = c.args.row.now in
    let count : c.in-Some.count ≡ p.count + 1 = c.in-Some.ensures.1 in
    let ends : length old ≡ p.count * words_for p.width = c.self.invariant.1 ∙ ap (λ (n : ℕ). p.count * n) c.self.invariant.0 in
    let wide : length row ≡ p.width = c.requires ∙ sym (ap (λ (v : WideRows). v.width) c.self.view_is) in
    let rows =
    ap (λ (ws : List ℕ). rows_in ws p.width c.in-Some.count) c.in_ok-append_row.ensures.ok
    ∙ ap (rows_in (old ++ words_of row) p.width) count
    ∙ rows_more old p.width p.count row ends wide in
    let made : WideRows → WideRows = λ v. record { width = v.width; rows = v.rows ++ row ∷ [] } in
    ap (λ (rs : List (List Bool)). record { width = p.width; rows = rs }) rows ∙ ap made c.self.view_is

pub invariant_of-self-2 : goal.invariant_of-self-2
invariant_of-self-2 c =
    let p = c.self.inside in
    let old = p.words.items in
    let row = c.args.row.now in
    let wide : length row ≡ p.width = c.requires ∙ sym (ap (λ (v : WideRows). v.width) c.self.view_is) in
    let count : c.in-Some.count ≡ p.count + 1 = c.in-Some.ensures.1 in
    let taken : length (words_of row) ≡ p.span = each_length (word_in row) 0 (words_for (length row)) ∙ ap words_for wide ∙ sym c.self.invariant.0 in
    let apart : (p.count + 1) * p.span ≡ p.count * p.span + p.span = next p.count p.span in
    let long = ap (λ (ws : List ℕ). length ws) c.in_ok-append_row.ensures.ok ∙ length-append old (words_of row) in
    (c.self.invariant.0, omega (arith, long, taken, c.self.invariant.1) ∙ sym apart ∙ ap (λ (n : ℕ). n * p.span) (sym count))
  where
    next : (a b : ℕ) → (a + 1) * b ≡ a * b + b
    next a b = omega (arith)
