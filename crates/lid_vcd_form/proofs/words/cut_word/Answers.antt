use Rattle.std.proofs.Common.{ℕ, ◌∷◌, [], List, take, drop, sym, ap, ◌∙◌, arith}
use Rattle.lid_vcd_form.specs.Words.{words_on, word_length}
use Rattle.lid_vcd_form.proofs.Cuts.{cut_at, end_behind}
use Rattle.lid_vcd_form.proofs.words.cut_word.Goals as goal

pub returns-clause-words : goal.returns-clause-words
returns-clause-words c = λ line.
    let front = c.split_at.ensures.front ∙ ap (λ (n : ℕ). take n c.args.bytes.now) c.find_end.ensures.at in
    let back = c.split_at.ensures.back ∙ ap (λ (n : ℕ). drop n c.args.bytes.now) c.find_end.ensures.at in
    cut_at line c.args.bytes.now c.requires.begins c.requires.some
    ∙ ap (λ (word : List ℕ). (line, word) ∷ words_on line [] (drop (word_length c.args.bytes.now) c.args.bytes.now)) (sym front)
    ∙ ap (λ (rest : List ℕ). (line, c.split_at.result.0.now) ∷ words_on line [] rest) (sym back)

pub returns-clause-shorter : goal.returns-clause-shorter
returns-clause-shorter c =
    let some = end_behind c.args.bytes.now c.requires.begins c.requires.some in
    let at = c.find_end.ensures.at in
    let back = c.split_at.ensures.back_len in
    omega arith
