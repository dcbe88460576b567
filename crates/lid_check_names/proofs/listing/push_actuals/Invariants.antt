use Rattle.std.proofs.Common.{◌≡◌, ◌++◌, map, drop}
use Rattle.lid_check_names.specs.Names.{texts}
use Rattle.lid_design.specs.Models.{actual_of}
use Rattle.lid_check_names.proofs.listing.push_actuals.Given as goal

abbrev pub invariant-loop-bind : goal.invariant-loop-bind
invariant-loop-bind l = texts l.list.items ++ map actual_of (drop l.bind-index l.binds) ≡ texts l.fn.list.items ++ map actual_of l.binds
