use Rattle.std.proofs.Common.{arith, rules}
use Rattle.lid_vcd_form.proofs.Digits.{digit_next}
use Rattle.lid_vcd_form.proofs.ids.+append_digits.Goals as goal
use Rattle.lid_vcd_form.proofs.ids.+append_digits.Goals.{then-number-ge2+in_ok-append_digits, else-number-ge2}

pub returns-clause-ok : goal.returns-clause-ok
returns-clause-ok t c =
    digit_next c.args.digits c.args.number _ c.args.into.now.items c.if-number-ge2.into.items _ (let some = c.if-digits-eq0.false in omega arith)
    (λ large. elim c.if-number-ge2.branch [ then-number-ge2+in_ok-append_digits w ↦ search rules | else-number-ge2 w ↦ absurd (let f = w.if-number-ge2.false in omega arith) ])
    (λ small. elim c.if-number-ge2.branch [ then-number-ge2+in_ok-append_digits w ↦ absurd (let f = w.if-number-ge2.true in omega arith) | else-number-ge2 w ↦ search rules ])
    (search rules) c.in_ok-push.ensures.items
