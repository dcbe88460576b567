use Rattle.std.proofs.Common.{◌≡◌, ◌++◌, take}
use Rattle.lid_blifout.specs.Pieces.{spaced_binds}
use Rattle.lid_base.specs.Lists.{Keeps}
use Rattle.lid_blifout.proofs.writer.append_binds.Given as goal

abbrev pub invariant-loop-bind : goal.invariant-loop-bind
invariant-loop-bind l = record {
  done : l.into.items ≡ l.fn.into.items ++ spaced_binds (take l.bind-index l.binds);
  kept : Keeps l.fn.into.items l.into.items;
}
