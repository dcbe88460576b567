use Rattle.std.proofs.Common.{◌≡◌, ◌++◌, take}
use Rattle.lid_check_parts.specs.Inner.{inner_drivers, latches_in, network_covers}
use Rattle.lid_check_parts.proofs.cells.push_cells.Given as goal

abbrev pub invariant-loop-net : goal.invariant-loop-net
invariant-loop-net l = record {
  latches : l.cells.latches.items ≡ l.fn.cells.latches.items ++ latches_in l.source.design.now (inner_drivers l.source.drivers.now l.source.part) (take l.net-index l.order);
  covers : l.cells.covers.items ≡ l.fn.cells.covers.items ++ network_covers l.source.design.now (inner_drivers l.source.drivers.now l.source.part) (take l.net-index l.order);
}
