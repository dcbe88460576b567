use Rattle.std.proofs.Common.{◌≡◌, ◌++◌, map, flat_map, drop}
use Rattle.lid_check_rules.specs.Conditions.{typed_cell}
use Rattle.lid_check_rules.specs.Edges.{latch_seen}
use Rattle.lid_check_rules.proofs.edges.push_cells.Given as goal

abbrev pub invariant-loop-cell : goal.invariant-loop-cell
invariant-loop-cell l = map latch_seen l.list.items ++ flat_map (typed_cell l.model) (drop l.cell-index l.cells) ≡ map latch_seen l.fn.list.items ++ flat_map (typed_cell l.model) l.cells
