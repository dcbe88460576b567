use Rattle.std.proofs.Common.{◌≡◌, ◌++◌, map, drop}
use Rattle.lid_design.specs.Flat.{latch_input}
use Rattle.lid_pearl.proofs.pearl.taken_of.Given as goal

abbrev pub invariant-loop-latch : goal.invariant-loop-latch
invariant-loop-latch l = l.nets.items ++ map latch_input (drop l.latch-index l.latches) ≡ map latch_input l.latches
