use Rattle.std.proofs.Common.{◌≡◌, ◌++◌, flat_map, drop}
use Rattle.lid_check_names.specs.Names.{texts}
use Rattle.lid_design.specs.Models.{cell_names}
use Rattle.lid_check_names.proofs.listing.push_cells.Given as goal

abbrev pub invariant-loop-cell : goal.invariant-loop-cell
invariant-loop-cell l = texts l.list.items ++ flat_map cell_names (drop l.cell-index l.cells) ≡ texts l.fn.list.items ++ flat_map cell_names l.cells
