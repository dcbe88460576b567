use Rattle.std.proofs.Common.{◌≡◌, ◌<◌, ◌≤◌, ◌+◌, ℕ, length, take, reverse, eqb, cond, ap, sym, subst, ◌∙◌, arith}
use Rattle.lid_net_channels.specs.declared.reads.Read.{Read}
use Rattle.lid_net_channels.specs.Cutting.{cut_back, last_width}
use Rattle.lid_net_channels.proofs.Cutting.{item_is, count_more, count_short}
use Rattle.lid_net_channels.proofs.pieces.count_channels.Goals as goal

pub loop-i-preserved : goal.loop-i-preserved
loop-i-preserved c =
    let more = count_more c.args.reads.now c.loop-i.i _ c.loop-i-test.true (item_is c.args.reads.now c.loop-i.i c.loop-i-test.true) in
    record {
      counted = ap (λ (n : ℕ). n + c.one_if-count.result) c.loop-i.invariant.counted
          ∙ ap (λ (n : ℕ). length (cut_back (reverse (take c.loop-i.i c.args.reads.now))) + n) (c.one_if-count.ensures ∙ ap (λ (n : ℕ). cond (eqb n 1) 1 0) c.width_after-width.ensures)
          ∙ sym more;
      width = c.width_after-width.ensures;
    }

pub overflow_add-count : goal.overflow_add-count
overflow_add-count c =
    let short = count_short c.args.reads.now (c.loop-i.i + 1) in
    let more = count_more c.args.reads.now c.loop-i.i _ c.loop-i-test.true (item_is c.args.reads.now c.loop-i.i c.loop-i-test.true) in
    let sum : c.loop-i.count + c.one_if-count.result ≡ length (cut_back (reverse (take (c.loop-i.i + 1) c.args.reads.now))) =
    ap (λ (n : ℕ). n + c.one_if-count.result) c.loop-i.invariant.counted
    ∙ ap (λ (n : ℕ). length (cut_back (reverse (take c.loop-i.i c.args.reads.now))) + n) (c.one_if-count.ensures ∙ ap (λ (n : ℕ). cond (eqb n 1) 1 0) c.width_after-width.ensures)
    ∙ sym more in
    let room : c.loop-i.count + c.one_if-count.result ≤ c.loop-i.i + 1 = subst (λ (n : ℕ). n ≤ c.loop-i.i + 1) (sym sum) short in
    omega arith
