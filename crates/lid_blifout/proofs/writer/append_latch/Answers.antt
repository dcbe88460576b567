use Rattle.std.proofs.Common.{◌∷◌, [], ◌++◌, List, ℕ, ap, sym, ◌∙◌, append-nil}
use Rattle.std.specs.Prelude.{codes}
use Rattle.lid_base_lines.specs.Texts.{line_text, spaced}
use Rattle.lid_blifout.specs.Canonical.{kind_words, init_word}
use Rattle.lid_base_lines.proofs.Pieces.{line_made, said_as}
use Rattle.lid_blifout.proofs.Lines.{latch_said}
use Rattle.lid_base.proofs.Lists.{appended}
use Rattle.lid_blifout.proofs.writer.append_latch.Goals as goal

pub returns-clause-ok : goal.returns-clause-ok
returns-clause-ok c =
    let input = c.args.input.now in
    let out = c.args.out.now in
    let kinds = kind_words c.args.kind c.args.control.now in
    let init = init_word c.args.init in
    let words = input ∷ out ∷ (kinds ++ init ∷ []) in
    let two = appended _ _ _ (32 ∷ input) (32 ∷ out) (said_as (λ (w : List ℕ). 32 ∷ w) _ _ c.as_slice.result.now input c.as_slice.ensures c.in_ok-append_word.ensures.ok) (said_as (λ (w : List ℕ). 32 ∷ w) _ _ c.as_slice-2.result.now out c.as_slice-2.ensures c.in_ok-append_word-2.ensures.ok) in
    let three = appended _ _ _ ((32 ∷ input) ++ (32 ∷ out)) (spaced kinds) two c.in_ok-append_kind.ensures.ok in
    let four = appended _ _ _ (((32 ∷ input) ++ (32 ∷ out)) ++ spaced kinds) (32 ∷ init) three (said_as (λ (w : List ℕ). 32 ∷ w) _ _ c.init_word.result.now init c.init_word.ensures c.in_ok-append_word-3.ensures.ok) in
    line_made c.args.into.now.items _ _ c.push.new.self.items (codes ".latch")
    ((((32 ∷ input) ++ (32 ∷ out)) ++ spaced kinds) ++ 32 ∷ init) words c.in_ok-extend_from_slice.ensures.items four c.in_ok-push.ensures.items (latch_said input out init kinds)
    ∙ ap (λ (bytes : List ℕ). c.args.into.now.items ++ bytes) (sym (append-nil (line_text (codes ".latch" ∷ words))))
