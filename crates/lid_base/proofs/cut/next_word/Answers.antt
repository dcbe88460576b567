use Rattle.std.proofs.Common.{ℕ, ◌-◌, not, length, take, drop}
use Rattle.std.proofs.lemmas.List.{take_rest}
use Rattle.lid_base.specs.Lines.{is_separator}
use Rattle.lid_base.proofs.Cutting.{position_some, position_none, words_in_none, next_none, next_some}
use Rattle.lid_base.proofs.cut.next_word.Goals as goal

pub returns-in-None-clause-words : goal.returns-in-None-clause-words
returns-in-None-clause-words c = words_in_none _ (position_none (λ (b : ℕ). not (is_separator b)) _ c.in-None.ensures)

pub returns-in-None-find_separator-clause-words : goal.returns-in-None-find_separator-clause-words
returns-in-None-find_separator-clause-words c =
    next_none c.args.bytes.now c.in-Some.start _ (position_some (λ (b : ℕ). not (is_separator b)) _ _ c.in-Some.ensures) (take_rest c.args.bytes.now c.in-Some.start)
    (position_none is_separator (take (length c.args.bytes.now - c.in-Some.start) (drop c.in-Some.start c.args.bytes.now)) c.in-None-find_separator.ensures)

pub returns-in-Some-find_separator-clause-words : goal.returns-in-Some-find_separator-clause-words
returns-in-Some-find_separator-clause-words c =
    next_some c.args.bytes.now c.in-Some.start _ _ (position_some (λ (b : ℕ). not (is_separator b)) _ _ c.in-Some.ensures) (take_rest c.args.bytes.now c.in-Some.start)
    (position_some is_separator _ _ c.in-Some-find_separator.ensures)
