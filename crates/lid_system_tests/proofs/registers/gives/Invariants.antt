use Rattle.std.proofs.Common.{◌≡◌, length}
use Rattle.lid_system_tests.proofs.registers.gives.Given as goal

abbrev pub invariant-loop-i : goal.invariant-loop-i
invariant-loop-i l = (length l.pearl.flat.ins ≡ l.ins) × (length l.pearl.flat.outs ≡ 1)
