use Rattle.std.proofs.Common.{◌≡◌, ◌++◌, map, drop}
use Rattle.lid_design.specs.Flat.{latch_out}
use Rattle.lid_pearl.proofs.pearl.held_of.Given as goal

abbrev pub invariant-loop-latch : goal.invariant-loop-latch
invariant-loop-latch l = l.nets.items ++ map latch_out (drop l.latch-index l.latches) ≡ map latch_out l.latches
