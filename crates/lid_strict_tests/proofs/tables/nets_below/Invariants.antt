use Rattle.std.proofs.Common.{◌≡◌}
use Rattle.lid_base.specs.Each.{from_each}
use Rattle.lid_strict_tests.proofs.tables.nets_below.Given as goal

abbrev pub invariant-loop-net : goal.invariant-loop-net
invariant-loop-net l = l.nets.items ≡ from_each (λ k. k) 0 l.net
