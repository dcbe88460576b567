use Rattle.std.proofs.Common.{length, map, reverse}
use Rattle.lid_check_elab.specs.Elaborations.{shown_driver}
use Rattle.lid_check_elab.specs.Scopes.{ArePlaced, AreNext, weights}
use Rattle.lid_check_elab.proofs.placing.push_all.Given as goal

abbrev pub invariant-loop-scope : goal.invariant-loop-scope
invariant-loop-scope l = record {
  written : ArePlaced l.judged (map (shown_driver l.judged) l.drivers.items);
  next : AreNext l.judged (length l.drivers.items) (reverse l.stack.items);
}

abbrev pub decreases-loop-scope : goal.decreases-loop-scope
decreases-loop-scope l = weights l.judged (reverse l.stack.items)
