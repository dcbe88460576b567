use Rattle.std.proofs.Common.{◌≡◌, ap, ◌∙◌, sym, arith, take, ℕ}
use Rattle.lid_base.specs.Lines.{trimmed, content_of, words_in}
use Rattle.lid_blif.proofs.Places.{kept_le, words_marked, words_unmarked}
use Rattle.lid_blif.proofs.physical.line_parts.Goals as goal
use Rattle.lid_blif.proofs.physical.line_parts.Goals.{then-goes_on, else-goes_on}

pub returns-clause-words : goal.returns-clause-words
returns-clause-words c =
    let line = c.args.line.now in
    let kept = c.trimmed-kept.result.now in
    let is : kept ≡ trimmed (content_of line) = c.trimmed-kept.ensures ∙ ap trimmed c.content_of-content.ensures in
    elim c.if-goes_on.branch [
      | then-goes_on w ↦
          ap (λ (n : ℕ). words_in (take n line)) w.end-is ∙ words_marked line kept is (sym c.ends_in_mark-goes_on.ensures ∙ w.if-goes_on.true)
      | else-goes_on w ↦
          ap (λ (n : ℕ). words_in (take n line)) w.end-is ∙ words_unmarked line kept is (sym c.ends_in_mark-goes_on.ensures ∙ w.if-goes_on.false)
    ]

pub returns-clause-end : goal.returns-clause-end
returns-clause-end c =
    let line = c.args.line.now in
    let kept = c.trimmed-kept.result.now in
    let is : kept ≡ trimmed (content_of line) = c.trimmed-kept.ensures ∙ ap trimmed c.content_of-content.ensures in
    elim c.if-goes_on.branch [
      | then-goes_on w ↦ omega (arith, w.end-is, kept_le line kept is)
      | else-goes_on w ↦ omega (arith, w.end-is, kept_le line kept is)
    ]
