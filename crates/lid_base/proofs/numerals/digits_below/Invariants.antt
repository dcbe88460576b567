use Rattle.std.proofs.Common.{◌≡◌, length}
use Rattle.lid_base.specs.Numbers.{number_on}
use Rattle.lid_base.proofs.numerals.digits_below.Given as goal

abbrev pub invariant-loop-rest : goal.invariant-loop-rest
invariant-loop-rest l = number_on l.limit l.value l.rest ≡ number_on l.limit 0 l.fn.digits

abbrev pub decreases-loop-rest : goal.decreases-loop-rest
decreases-loop-rest l = length l.rest
