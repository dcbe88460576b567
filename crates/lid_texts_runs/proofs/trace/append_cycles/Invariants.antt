use Rattle.std.proofs.Common.{◌≡◌, ◌*◌, ◌++◌, length}
use Rattle.lid_base.specs.Lists.{Keeps}
use Rattle.lid_texts_runs.specs.Runs.{cycles_from}
use Rattle.lid_texts_runs.proofs.trace.append_cycles.Given as goal

abbrev pub invariant-loop-left : goal.invariant-loop-left
invariant-loop-left l = record {
  done : l.into.items ++ cycles_from l.stations l.left l.rest ≡ l.fn.into.items ++ cycles_from l.stations l.cycles l.cells;
  kept : Keeps l.fn.into.items l.into.items;
  long : length l.rest ≡ l.stations * l.left;
  width : l.width ≡ l.stations;
}

abbrev pub decreases-loop-left : goal.decreases-loop-left
decreases-loop-left l = l.left
