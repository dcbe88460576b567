use Rattle.std.proofs.Common.{◌≡◌}
use Rattle.lid_check_elab.specs.Numbers.{offset_of}
use Rattle.lid_check_elab.proofs.sizes.sum_sizes.Given as goal

abbrev pub invariant-loop-inst : goal.invariant-loop-inst
invariant-loop-inst l = l.size ≡ offset_of l.judged l.model l.inst
