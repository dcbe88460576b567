use Rattle.std.proofs.Common.{◌≡◌}
use Rattle.lid_base.specs.Each.{from_each}
use Rattle.lid_size.specs.Testing.{empty_way}
use Rattle.lid_size.proofs.ways.first_ways.Given as goal

abbrev pub invariant-loop-v : goal.invariant-loop-v
invariant-loop-v l = l.ways.items ≡ from_each empty_way 0 l.v
