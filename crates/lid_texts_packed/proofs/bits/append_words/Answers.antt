use Rattle.std.proofs.Common.{◌≡◌, ℕ, ◌+◌, ◌-◌, ◌*◌, [], ◌∷◌, ◌++◌, length, min, take, drop, ◌∙◌, ap, arith}
use Rattle.std.proofs.lemmas.List.{length-drop, take_min}
use Rattle.lid_base.proofs.Each.{each_pushed}
use Rattle.lid_texts_packed.specs.Bits.{value_of_bits, word_in}
use Rattle.lid_texts_packed.proofs.bits.append_words.Goals as goal

pub loop-k-preserved : goal.loop-k-preserved
loop-k-preserved c =
    let row = c.args.row.now in
    let k = c.loop-k.k in
    let rest = drop (64 * k) row in
    let old = c.loop-k.words.items in
    let left = length-drop (64 * k) row in
    let many : (64 * k + c.min.result) - 64 * k ≡ min 64 (length rest) = grind (arith, left, c.min.ensures) in
    let word : c.word_of.result ≡ word_in row k =
    c.word_of.ensures ∙ ap (λ (n : ℕ). value_of_bits (take n rest)) many ∙ ap value_of_bits (take_min 64 rest) in
    each_pushed (word_in row) c.args.words.now.items old c.push.new.self.items k c.loop-k.invariant
    (c.in_ok-push.ensures.items ∙ ap (λ (w : ℕ). old ++ w ∷ []) word)
