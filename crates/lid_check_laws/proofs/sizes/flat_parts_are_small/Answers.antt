use Rattle.lid_check_laws.proofs.Flats.{all_driven, few_reads, part_long}
use Rattle.lid_check_laws.proofs.Bounds.{part_nets, part_cells}
use Rattle.lid_check_laws.proofs.sizes.flat_parts_are_small.Goals as goal

pub returns : goal.returns
returns c = record { part = part_long; drivers = all_driven; reads = few_reads; nets = part_nets; cells = part_cells }
