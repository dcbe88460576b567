use Rattle.std.proofs.Common.{◌≡◌, ◌++◌}
use Rattle.lid_blifout.specs.Canonical.{characters}
use Rattle.lid_base.specs.Lists.{Keeps}
use Rattle.lid_blifout.proofs.writer.append_characters.Given as goal

abbrev pub invariant-loop-left : goal.invariant-loop-left
invariant-loop-left l = record {
  done : l.into.items ++ characters l.left l.care l.value ≡ l.fn.into.items ++ characters l.inputs l.cube.care l.cube.value;
  kept : Keeps l.fn.into.items l.into.items;
}

abbrev pub decreases-loop-left : goal.decreases-loop-left
decreases-loop-left l = l.left
