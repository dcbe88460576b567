use Rattle.std.proofs.Common.{◌+◌, ◌*◌, ℕ, ap, ◌∙◌, arith}
use Rattle.std.proofs.lemmas.List.{take_rest}
use Rattle.lid_vcd_form.proofs.Digits.{bits_next}
use Rattle.lid_vcd_form.proofs.ids.bits_value.Goals as goal

pub loop-rest-preserved : goal.loop-rest-preserved
loop-rest-preserved c =
    bits_next c.args.word.now c.loop-rest.rest.now _ c.loop-rest.value _ (omega (arith, c.in-len1-up.len_at_least)) (take_rest c.loop-rest.rest.now 1)
    (ap (λ (d : ℕ). 2 * c.loop-rest.value + d) (c.from.ensures ∙ c.saturating_sub.ensures)) c.loop-rest.invariant
