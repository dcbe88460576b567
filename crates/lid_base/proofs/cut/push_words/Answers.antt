use Rattle.std.proofs.Common.{ℕ, List, [], ◌∷◌, ◌++◌, ◌∙◌, ap, subst, sym}
use Rattle.lid_base.specs.Lines.{words_in, words_of}
use Rattle.lid_base.specs.Lists.{ExtendsByPart}
use Rattle.lid_base.proofs.Results.{given_err}
use Rattle.lid_base.proofs.Lists.{IsPartway, partway_next, partway_done, partway_part}
use Rattle.lid_base.proofs.cut.push_words.Goals as goal

pub returns-in_err-copy_name-clause-err : goal.returns-in_err-copy_name-clause-err
returns-in_err-copy_name-clause-err c =
    given_err c.from_residual.result
    (partway_part c.args.words.now.items c.loop-word.words.items (words_of c.args.line.now) (words_in c.loop-word.rest.now) c.loop-word.invariant)

pub returns-in_err-push-clause-err : goal.returns-in_err-push-clause-err
returns-in_err-push-clause-err c =
    given_err c.from_residual-in_err-push.result
    (subst (λ (words : List (List ℕ)). ExtendsByPart c.args.words.now.items words (words_of c.args.line.now)) (sym c.in_err-push.ensures.items)
    (partway_part c.args.words.now.items c.loop-word.words.items (words_of c.args.line.now) (words_in c.loop-word.rest.now) c.loop-word.invariant))

pub loop-word-preserved : goal.loop-word-preserved
loop-word-preserved c =
    partway_next c.args.words.now.items c.loop-word.words.items c.push.new.self.items (words_of c.args.line.now) _ (words_in c.in-Some.after.now)
    (subst (λ (left : List (List ℕ)). IsPartway c.args.words.now.items c.loop-word.words.items (words_of c.args.line.now) left) c.in-Some.ensures.words c.loop-word.invariant)
    (c.in_ok-push.ensures.items ∙ ap (λ (word : List ℕ). c.loop-word.words.items ++ word ∷ []) c.in_ok-copy_name.ensures)

pub returns-clause-ok : goal.returns-clause-ok
returns-clause-ok c =
    partway_done c.args.words.now.items c.loop-word.words.items (words_of c.args.line.now)
    (subst (λ (left : List (List ℕ)). IsPartway c.args.words.now.items c.loop-word.words.items (words_of c.args.line.now) left) c.in_default.ensures.words c.loop-word.invariant)
