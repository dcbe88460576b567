use Rattle.std.proofs.Common.{◌<◌, ◌-◌, ◌++◌, ℕ, [], ◌∷◌, subst, ◌∙◌, ap, arith}
use Rattle.lid_base.proofs.Each.{each_pushed}
use Rattle.lid_strict_engine.specs.Programs.{cover_with}
use Rattle.lid_strict_engine.proofs.Tabling.{size_is}
use Rattle.lid_strict_tables.specs.Wide.{word_of}
use Rattle.lid_strict_tables.proofs.table.push_words.Goals as goal

pub loop-high-preserved : goal.loop-high-preserved
loop-high-preserved c =
    let inputs = c.args.inputs in
    let few = c.requires.few in
    let room = subst (λ (n : ℕ). c.loop-high.high < n) (size_is (inputs - 6) (omega arith)) c.loop-high-test.true in
    let word = c.word_at.ensures inputs c.requires.many room c.requires.cover in
    each_pushed (word_of (cover_with inputs c.args.on c.args.cubes.now)) c.args.words.now.items c.loop-high.words.items c.push.new.self.items c.loop-high.high c.loop-high.invariant
    (c.in_ok-push.ensures.items ∙ ap (λ (w : ℕ). c.loop-high.words.items ++ w ∷ []) word)
