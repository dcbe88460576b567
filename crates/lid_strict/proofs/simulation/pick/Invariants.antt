use Rattle.std.proofs.Common.{◌≡◌, length, map, take}
use Rattle.lid_strict_engine.specs.Rows.{bit_at}
use Rattle.lid_strict.proofs.simulation.pick.Given as goal

abbrev pub invariant-loop-i : goal.invariant-loop-i
invariant-loop-i l = (length l.into ≡ length l.numbers) × (take l.i l.into ≡ map (bit_at l.bits) (take l.i l.numbers))
