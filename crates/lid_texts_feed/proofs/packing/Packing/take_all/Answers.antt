use Rattle.std.proofs.Common.{◌≡◌, ℕ, ◌+◌, ◌-◌, List, ◌++◌, take, drop, sym, ◌∙◌, ap, subst, arith}
use Rattle.std.proofs.Math.Seq.{take-add}
use Rattle.lid_texts_feed.specs.Packing.{HasPacked}
use Rattle.lid_texts_feed.proofs.packing.Packing.take_all.Goals as goal

pub loop-at-preserved : goal.loop-at-preserved
loop-at-preserved c = λ columns outs has.
    let at = c.loop-at.at in
    let text = c.args.text.now in
    let size = c.min.result in
    let next : HasPacked columns outs (take at text ++ take ((at + size) - at) (drop at text)) c.take.new.self = c.in_ok-take.ensures columns outs (take at text) (c.loop-at.invariant columns outs has) in
    let same : (at + size) - at ≡ size = omega arith in
    subst (λ (bs : List ℕ). HasPacked columns outs bs c.take.new.self)
    (ap (λ (n : ℕ). take at text ++ take n (drop at text)) same ∙ sym (take-add at size text)) next
