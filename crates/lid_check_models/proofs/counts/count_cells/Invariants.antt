use Rattle.std.proofs.Common.{◌≡◌, ◌≤◌, ◌+◌, min, drop, sum_by}
use Rattle.lid_check_models.specs.Counts.{in_cell}
use Rattle.lid_check_models.proofs.counts.count_cells.Given as goal

abbrev pub invariant-loop-cell : goal.invariant-loop-cell
invariant-loop-cell l = record {
  small : l.count ≤ 18446744073709551615;
  rest : min (l.count + sum_by (in_cell l.what) (drop l.cell-index l.cells)) 18446744073709551615 ≡ min (sum_by (in_cell l.what) l.cells) 18446744073709551615;
}
