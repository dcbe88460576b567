use Rattle.std.proofs.Common.{◌≡◌, length}
use Rattle.lid_emit_circuit.specs.Plans.{CircuitPlan}
use Rattle.lid_emit_layout.specs.Stations.{AreStationsOf}
use Rattle.lid_emit_layout.specs.Ends.{AreJoined}
use Rattle.lid_emit_layout.proofs.ends.join_all.Given as goal

abbrev pub invariant-loop-s : goal.invariant-loop-s
invariant-loop-s l = record {
  many : length l.ends.items ≡ length l.fn.ends.items;
  joined : (q : CircuitPlan) → AreStationsOf q l.stations → AreJoined q 0 l.fn.ends.items → AreJoined q l.s l.ends.items;
}
