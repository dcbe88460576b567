use Rattle.std.proofs.Common.{◌≡◌, ◌+◌, ◌++◌, ℕ, suc, List, length, get_or, drop, Some, inl, inr, sym, ◌∙◌, ap, subst, ⊎_elim, arith}
use Rattle.std.proofs.Math.Seq.{drop-cons}
use Rattle.lid_texts_runs.specs.Schedules.{words_on_line, word_fault, actors_reading}
use Rattle.lid_texts_runs.proofs.Steps.{refused_word}
use Rattle.lid_texts_runs.proofs.schedule.push_line.Goals as goal

pub returns-in-Err-clause-err : goal.returns-in-Err-clause-err
returns-in-Err-clause-err c =
    let s = c.loop-word.schedule.items in
    let words = c.args.line.now.words in
    let i = c.loop-word.word-index in
    let long : length c.as_slice-word-items.result.now ≡ length words = ap (λ (ws : List (List ℕ)). length ws) c.as_slice-word-items.ensures in
    let item = get_or words i c.word-item.result in
    let same : c.as_slice.result.now ≡ item = c.as_slice.ensures ∙ c.word-item.is ∙ ap (λ (ws : List (List ℕ)). get_or ws i c.word-item.result) c.as_slice-word-items.ensures in
    ⊎_elim inl
    (λ told. inr (λ (later : List (ℕ × List ℕ)).
    sym (c.loop-word.invariant later)
    ∙ ap (λ (ws : List (List ℕ)). actors_reading c.args.actors s (words_on_line c.args.line.now.number ws ++ later)) (drop-cons words i c.word-item.result (omega arith))
    ∙ refused_word c.args.actors s (c.args.line.now.number, item) (words_on_line c.args.line.now.number (drop (suc i) words) ++ later) c.in-Err.fault
    (subst (λ (w : List ℕ). word_fault c.args.actors (length s + 1, (c.args.line.now.number, w)) ≡ Some c.in-Err.fault) same told)))
    c.in-Err.ensures.err
