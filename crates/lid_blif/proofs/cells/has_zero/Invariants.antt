use Rattle.std.proofs.Common.{◌≡◌, drop}
use Rattle.std.specs.List.{list_any}
use Rattle.lid_blif.specs.Faults.{ends_in_zero}
use Rattle.lid_blif.proofs.cells.has_zero.Given as goal

abbrev pub invariant-loop-row : goal.invariant-loop-row
invariant-loop-row l = list_any ends_in_zero (drop l.row-index l.rows) ≡ list_any ends_in_zero l.rows
