use Rattle.std.proofs.Common.{◌≡◌}
use Rattle.lid_system_tests.specs.Registers.{nets_from}
use Rattle.lid_system_tests.proofs.registers.nets_below.Given as goal

abbrev pub invariant-loop-k : goal.invariant-loop-k
invariant-loop-k l = l.nets.items ≡ nets_from 0 l.k
