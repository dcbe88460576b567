use Rattle.std.proofs.Common.{ℕ, ◌-◌, not, length, take, drop}
use Rattle.std.proofs.lemmas.List.{take_rest}
use Rattle.lid_base.specs.Lines.{is_separator}
use Rattle.lid_base.proofs.Cutting.{position_some, position_none, words_in_none, next_none, next_some}
use Rattle.lid_blif.proofs.Places.{word_to_end, word_to_separator}
use Rattle.lid_blif.proofs.physical.first_word.Goals as goal

pub returns-in-None-clause-words : goal.returns-in-None-clause-words
returns-in-None-clause-words c = words_in_none _ (position_none (λ (b : ℕ). not (is_separator b)) _ c.in-None.ensures)

pub returns-in-None-find_separator-clause-words : goal.returns-in-None-find_separator-clause-words
returns-in-None-find_separator-clause-words c =
    let bytes = c.args.bytes.now in
    let start = c.in-Some.start in
    let rest = take (length bytes - start) (drop start bytes) in
    word_to_end bytes rest start (take_rest bytes start)
    (next_none bytes start rest (position_some (λ (b : ℕ). not (is_separator b)) _ _ c.in-Some.ensures) (take_rest bytes start)
    (position_none is_separator rest c.in-None-find_separator.ensures))

pub returns-in-Some-find_separator-clause-words : goal.returns-in-Some-find_separator-clause-words
returns-in-Some-find_separator-clause-words c =
    let bytes = c.args.bytes.now in
    let start = c.in-Some.start in
    let rest = take (length bytes - start) (drop start bytes) in
    word_to_separator bytes rest start _ (take_rest bytes start)
    (next_some bytes start rest _ (position_some (λ (b : ℕ). not (is_separator b)) _ _ c.in-Some.ensures) (take_rest bytes start)
    (position_some is_separator _ _ c.in-Some-find_separator.ensures))
