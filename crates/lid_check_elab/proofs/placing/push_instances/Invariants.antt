use Rattle.std.proofs.Common.{◌≡◌, ◌+◌, ◌≤◌, length, reverse, take}
use Rattle.lid_design.specs.Models.{insts_of}
use Rattle.lid_check_elab.specs.Numbers.{over_insts, offset_of, weight_of}
use Rattle.lid_check_elab.specs.Scopes.{AreNext, weights}
use Rattle.lid_check_elab.proofs.placing.push_instances.Given as goal

abbrev pub invariant-loop-i : goal.invariant-loop-i
invariant-loop-i l = record {
  inside : l.i ≤ length l.offsets;
  next : AreNext l.judged (l.scope.start + offset_of l.judged l.scope.model l.i) (reverse l.stack.items);
  heavy : weights l.judged (reverse l.stack.items) + over_insts l.judged (weight_of l.judged) (take l.i (insts_of l.judged l.scope.model)) ≡ weights l.judged (reverse l.fn.stack.items) + over_insts l.judged (weight_of l.judged) (insts_of l.judged l.scope.model);
}

abbrev pub decreases-loop-i : goal.decreases-loop-i
decreases-loop-i l = l.i
