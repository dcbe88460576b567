use Rattle.std.proofs.Common.{◌≡◌, ◌++◌, drop}
use Rattle.lid_check_names.specs.Names.{texts}
use Rattle.lid_check_names.proofs.listing.push_names.Given as goal

abbrev pub invariant-loop-name : goal.invariant-loop-name
invariant-loop-name l = texts l.list.items ++ drop l.name-index l.names ≡ texts l.fn.list.items ++ l.names
