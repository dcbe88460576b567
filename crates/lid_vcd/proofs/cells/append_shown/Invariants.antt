use Rattle.std.proofs.Common.{◌≡◌, ◌++◌, length}
use Rattle.lid_vcd_form.specs.Shows.{shown_stations}
use Rattle.lid_vcd.proofs.cells.append_shown.Given as goal

abbrev pub invariant-loop-rest : goal.invariant-loop-rest
invariant-loop-rest l = l.into.items ++ shown_stations l.rest ≡ l.fn.into.items ++ shown_stations l.values

abbrev pub decreases-loop-rest : goal.decreases-loop-rest
decreases-loop-rest l = length l.rest
