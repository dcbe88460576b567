use Rattle.std.proofs.Common.{◌≡◌, ◌++◌, map, drop}
use Rattle.lid_check_names.specs.Names.{texts}
use Rattle.lid_design.specs.Models.{cell_out}
use Rattle.lid_check_names.proofs.listing.push_outs.Given as goal

abbrev pub invariant-loop-cell : goal.invariant-loop-cell
invariant-loop-cell l = texts l.list.items ++ map cell_out (drop l.cell-index l.cells) ≡ texts l.fn.list.items ++ map cell_out l.cells
