use Rattle.std.proofs.Common.{map, flat_map}
use Rattle.lid_design.specs.Models.{cell_reads, cell_out}
use Rattle.lid_check_table.proofs.Growing.{begun}
use Rattle.lid_check_table.proofs.table.number_cells.Goals as goal

pub returns-clause-numbers : goal.returns-clause-numbers
returns-clause-numbers c = record {
  for_reads = begun c.args.names.now c.enter_cells.new.names (flat_map cell_reads c.args.cells.now) c.in_ok-into.into.reads.items c.enter_cells.new.into.reads.items c.from_vec.result c.in_ok-into.ensures.reads c.from_vec.ensures c.in_ok-enter_cells.ensures.for_reads;
  for_outs = begun c.args.names.now c.enter_cells.new.names (map cell_out c.args.cells.now) c.in_ok-into.into.outs.items c.enter_cells.new.into.outs.items c.from_vec-2.result c.in_ok-into.ensures.outs c.from_vec-2.ensures c.in_ok-enter_cells.ensures.for_outs;
}
