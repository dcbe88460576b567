use Rattle.std.proofs.Common.{◌≡◌, ◌++◌, map, drop}
use Rattle.lid_design.specs.Models.{formal_of}
use Rattle.lid_check_names.specs.Names.{texts}
use Rattle.lid_check_names.proofs.listing.list_formals.Given as goal

abbrev pub invariant-loop-bind : goal.invariant-loop-bind
invariant-loop-bind l = texts l.list.items ++ map formal_of (drop l.bind-index l.binds) ≡ map formal_of l.binds
