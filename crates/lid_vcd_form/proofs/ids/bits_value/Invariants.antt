use Rattle.std.proofs.Common.{length}
use Rattle.lid_vcd_form.proofs.Digits.{BitsLeft}
use Rattle.lid_vcd_form.proofs.ids.bits_value.Given as goal

abbrev pub invariant-loop-rest : goal.invariant-loop-rest
invariant-loop-rest l = BitsLeft l.fn.word l.value l.rest

abbrev pub decreases-loop-rest : goal.decreases-loop-rest
decreases-loop-rest l = length l.rest
