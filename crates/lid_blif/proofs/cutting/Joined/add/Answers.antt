use Rattle.std.proofs.Common.{◌+◌, subst, ◌≡◌, ℕ, ◌++◌, ◌≤◌, List, length, true, false, drop, sym, ◌∙◌, ap, arith}
use Rattle.lid_base.specs.Lines.{goes_on}
use Rattle.lid_base.specs.Joins.{open_lines}
use Rattle.lid_blif.specs.declared.line.Word.{Word}
use Rattle.lid_blif.specs.Places.{bytes_between, bytes_of_words}
use Rattle.lid_blif.specs.Joins.{lines_cut}
use Rattle.lid_blif.proofs.Places.{words_length, words_few}
use Rattle.lid_blif.proofs.Sizes.{lines_go_on, lines_end}
use Rattle.lid_blif.proofs.cutting.Joined.add.Goals as goal

pub returns-in-Ok-true-clause-lines : goal.returns-in-Ok-true-clause-lines
returns-in-Ok-true-clause-lines c =
    λ ps.
    let joined = c.args.self.now in
    let line = bytes_between joined.text.now c.args.from c.args.to in
    let words = bytes_of_words joined.text.now joined.words.items in
    let within : joined.start ≤ length words = omega (arith, c.requires.joined.within, words_length joined.text.now joined.words.items) in
    let goes : goes_on line ≡ true = sym c.in-Ok-true.ensures.goes_on ∙ c.in-Ok-true.field-0-test in
    ap (λ (ws : List (List ℕ)). lines_cut joined.sizes.items ws ++ open_lines joined.number (drop joined.start ws) ps) c.in-Ok-true.ensures.words
    ∙ lines_go_on joined.sizes.items words joined.number joined.start (c.args.number, line) ps c.requires.joined.start within goes

pub returns-in-Ok-clause-lines : goal.returns-in-Ok-clause-lines
returns-in-Ok-clause-lines c =
    λ ps.
    let joined = c.args.self.now in
    let line = bytes_between joined.text.now c.args.from c.args.to in
    let words = bytes_of_words joined.text.now joined.words.items in
    let within : joined.start ≤ length words = omega (arith, c.requires.joined.within, words_length joined.text.now joined.words.items) in
    let ends : goes_on line ≡ false = sym c.in-Ok-false.ensures.goes_on ∙ c.in-Ok-false.field-0-test in
    rw (c.in-Ok.ensures.done, c.in-Ok.ensures.number, c.in-Ok.ensures.words, c.in-Ok-false.ensures.words)
    (lines_end joined.sizes.items words joined.number joined.start (c.args.number, line) ps c.requires.joined.start within ends)

pub returns-in-Ok-true-clause-few : goal.returns-in-Ok-true-clause-few
returns-in-Ok-true-clause-few c =
    let joined = c.args.self.now in
    words_few joined.text.now joined.words.items c.take_words.new.words.items c.args.from c.args.to c.requires.within.0 c.requires.within.1 c.requires.few c.in-Ok-true.ensures.words

pub close-requires-clause-few : goal.close-requires-clause-few
close-requires-clause-few c =
    let joined = c.args.self.now in
    omega (arith, c.requires.within.1, c.requires.short, words_few joined.text.now joined.words.items c.take_words.new.words.items c.args.from c.args.to c.requires.within.0 c.requires.within.1 c.requires.few c.in-Ok-false.ensures.words)

pub returns-in-Ok-clause-few : goal.returns-in-Ok-clause-few
returns-in-Ok-clause-few c =
    let joined = c.args.self.now in
    subst (λ (words : List Word). length words ≤ c.args.to + 1) (sym c.in-Ok.ensures.same)
    (words_few joined.text.now joined.words.items c.take_words.new.words.items c.args.from c.args.to c.requires.within.0 c.requires.within.1 c.requires.few c.in-Ok-false.ensures.words)
