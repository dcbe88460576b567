use Rattle.std.proofs.Common.{◌≡◌}
use Rattle.lid_base.specs.Each.{from_each}
use Rattle.lid_strict_widths.proofs.ordering.numbers_below.Given as goal

abbrev pub invariant-loop-number : goal.invariant-loop-number
invariant-loop-number l = l.numbers.items ≡ from_each (λ k. k) 0 l.number
