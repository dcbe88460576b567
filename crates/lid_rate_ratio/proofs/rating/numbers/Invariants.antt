use Rattle.lid_rate_ratio.specs.Numbers.{AreAllNumbers}
use Rattle.lid_rate_ratio.proofs.rating.numbers.Given as goal

abbrev pub invariant-loop-k : goal.invariant-loop-k
invariant-loop-k l = AreAllNumbers l.k l.all.items
