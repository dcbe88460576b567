use Rattle.std.proofs.Common.{◌≡◌, ◌++◌}
use Rattle.lid_vcd_form.specs.Shows.{cycles_of}
use Rattle.lid_vcd.proofs.cells.append_cycles.Given as goal

abbrev pub invariant-loop-left : goal.invariant-loop-left
invariant-loop-left l = l.into.items ++ cycles_of l.left l.values ≡ l.fn.into.items ++ cycles_of l.count l.values

abbrev pub decreases-loop-left : goal.decreases-loop-left
decreases-loop-left l = l.left
