use Rattle.std.proofs.Common.{◌≡◌, ◌++◌, map, drop}
use Rattle.lid_design.specs.Flat.{latch_init}
use Rattle.lid_strict_engine.proofs.row.first_state.Given as goal

abbrev pub invariant-loop-latch : goal.invariant-loop-latch
invariant-loop-latch l = l.state.items ++ map latch_init (drop l.latch-index l.latches) ≡ map latch_init l.latches
